pub mod Follows
pub mod Laws
pub mod Matches
pub mod Needs
pub mod Steady
