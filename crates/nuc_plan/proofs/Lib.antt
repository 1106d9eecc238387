pub mod Cases
pub mod Collecting
pub mod DueFacts
pub mod OneList
pub mod Planned
pub mod Walking
