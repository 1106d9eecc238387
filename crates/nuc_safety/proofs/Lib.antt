pub mod Batches
pub mod Pairs
pub mod Taking
mod TestKinds
