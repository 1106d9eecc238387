use Rattle.nuc_blocks.specs.Blocks.{Blocks}

-- a store: its blocks, and those that it had when it was last settled
pub record StoreState : Type 0 where
  pub now : Blocks
  pub settled : Blocks
