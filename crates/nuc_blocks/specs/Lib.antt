pub mod Blocks
pub mod Faults
pub mod Laws
pub mod Pieces
pub mod Store
