pub mod Batch
pub mod FirstFit
pub mod Laws
pub mod Together
