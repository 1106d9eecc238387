pub mod Calls
pub mod Causes
pub mod Filling
pub mod Line
pub mod Memory
pub mod Reading
pub mod Writing
