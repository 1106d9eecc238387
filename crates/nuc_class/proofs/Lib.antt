pub mod Decided
pub mod Fits
pub mod Rows
pub mod Tells
pub mod Walk
