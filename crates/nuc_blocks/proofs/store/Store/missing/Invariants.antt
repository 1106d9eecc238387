use Rattle.std.proofs.Common.{◌≡◌, map, take}
use Rattle.nuc_blocks.specs.Blocks.{is_missing}
use Rattle.nuc_blocks.proofs.store.Store.missing.Given as goal

abbrev pub invariant-loop-index : goal.invariant-loop-index
invariant-loop-index l = take l.index l.flags ≡ map (is_missing l.self.now) (take l.index l.list)
