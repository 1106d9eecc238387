pub mod Judge
pub mod State
pub mod Undo
pub mod Versions
pub mod Web
pub mod WebEdits
