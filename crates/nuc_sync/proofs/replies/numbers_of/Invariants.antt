use Rattle.std.proofs.Common.{◌≡◌, take}
use Rattle.nuc_sync.specs.Tasks.{numbers_of}
use Rattle.nuc_sync.proofs.replies.numbers_of.Given as goal

abbrev pub invariant-loop-op : goal.invariant-loop-op
invariant-loop-op l = l.numbers.items ≡ numbers_of (take l.op-index l.ops)
