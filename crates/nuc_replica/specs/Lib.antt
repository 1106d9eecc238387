pub mod Ahead
pub mod Following
pub mod Local
pub mod Remote
pub mod Renaming
