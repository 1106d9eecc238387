pub mod Hands
pub mod Cells
pub mod Turns
