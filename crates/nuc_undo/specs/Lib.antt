pub mod Laid
pub mod Laws
pub mod State
pub mod Steps
pub mod Stock
pub mod Undo
