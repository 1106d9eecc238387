pub mod Entries
pub mod Journal
pub mod Laws
pub mod State
pub mod Tracks
