use Rattle.std.proofs.Common.{◌≡◌, take}
use Rattle.nuc_blocks.specs.Blocks.{assembled}
use Rattle.nuc_blocks.proofs.store.Store.joined.Given as goal

abbrev pub invariant-loop-digest : goal.invariant-loop-digest
invariant-loop-digest l = l.all.items ≡ assembled l.self.now (take l.digest-index l.list)
