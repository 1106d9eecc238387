pub mod Ends
pub mod Histories
pub mod Journals
mod Kept
pub mod Lists
