pub mod Contents
pub mod Formed
pub mod Keeping
pub mod Lookups
pub mod Stored
