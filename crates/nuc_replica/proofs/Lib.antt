pub mod Followed
pub mod Journaled
pub mod Heard
pub mod InPlace
pub mod Kept
pub mod Laying
pub mod Locals
pub mod Paged
pub mod Scanned
mod Trials
