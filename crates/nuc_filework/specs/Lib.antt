pub mod Calls
pub mod Lacks
pub mod Runs
