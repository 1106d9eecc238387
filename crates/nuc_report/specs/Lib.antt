pub mod Line
pub mod Reasons
pub mod Answers
pub mod Entry
pub mod Report
pub mod Seen
pub mod Usage
pub mod Output
