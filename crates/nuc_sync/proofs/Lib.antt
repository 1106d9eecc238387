mod Asking
mod Carrying
mod Whole
pub mod Growing
pub mod Known
pub mod Members
pub mod Running
