pub mod Rings
pub mod State
