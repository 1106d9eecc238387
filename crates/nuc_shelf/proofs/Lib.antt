pub mod Bytes
pub mod Shelves
