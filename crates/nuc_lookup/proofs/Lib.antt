pub mod Ends
pub mod Maps
pub mod Rows
pub mod Search
pub mod Sorting
pub mod Undoing
pub mod Views
