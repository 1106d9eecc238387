pub mod Chain
pub mod Recording
pub mod Service
