pub mod Hashing
pub mod Joined
pub mod Pieces
pub mod Sizes
