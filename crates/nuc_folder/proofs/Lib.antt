pub mod ByName
pub mod Found
pub mod Inserts
pub mod Keyed
pub mod ListedKeys
pub mod OneListing
pub mod Rounds
pub mod Unfolding
pub mod UserChanges
pub mod UserKeys
pub mod Walk
mod Removing
