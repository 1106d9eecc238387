pub mod Entries
pub mod Indexes
pub mod Places
pub mod Rows
pub mod Siblings
pub mod Slots
