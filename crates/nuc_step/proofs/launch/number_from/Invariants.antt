use Rattle.std.proofs.Common.{◌≡◌, ◌+◌}
use Rattle.nuc_step.specs.Steps.{numbered}
use Rattle.nuc_step.proofs.Laying.{NumberedUpTo}
use Rattle.nuc_step.proofs.launch.number_from.Given as goal

abbrev pub invariant-loop-op : goal.invariant-loop-op
invariant-loop-op g l = record {
  next : l.next ≡ l.fn.first + l.op-index;
  numbers : NumberedUpTo l.next l.remote.now l.op-index l.op-items (numbered l.fn.first l.remote.now l.fn.ops.items);
}
