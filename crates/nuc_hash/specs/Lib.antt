pub mod Content
pub mod Filling
pub mod Hashing
