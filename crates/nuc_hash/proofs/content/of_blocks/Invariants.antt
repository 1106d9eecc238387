use Rattle.std.proofs.Common.{take}
use Rattle.sha2.specs.Hashers.{Holds256}
use Rattle.nuc_hash.specs.Content.{joined}
use Rattle.nuc_hash.proofs.content.of_blocks.Given as goal

abbrev pub invariant-loop-digest : goal.invariant-loop-digest
invariant-loop-digest l = Holds256 l.hasher (joined (take l.digest-index l.digests))
