pub mod AtRest
pub mod OneOutcome
pub mod Outcome
pub mod Quiet
pub mod Scripts
pub mod Sound
pub mod Stalled
pub mod Statuses
