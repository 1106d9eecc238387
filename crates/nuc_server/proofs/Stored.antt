-- What storing a file's blocks makes of a store, passed on for the crates above.
pub use Rattle.nuc_blocks.proofs.Stored.{none_missing, stands_on}
