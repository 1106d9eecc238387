pub mod Cost
pub mod Differing
pub mod Laws
pub mod Marks
pub mod Pays
pub mod Potential
pub mod Steps
pub mod Totals
