mod Aligned
mod Apart
mod Bound
pub mod Distinct
mod Drawn
pub mod Fresh
mod Grown
mod InTurn
mod Inverse
pub mod KeptFits
pub mod KeptPut
pub mod Made
mod Members
pub mod Origin
pub mod Reordered
mod Standing
mod Undoing
mod Whose
