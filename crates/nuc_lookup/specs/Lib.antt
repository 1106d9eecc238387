pub mod Lookup
pub mod Rows
pub mod State
pub mod Undo
