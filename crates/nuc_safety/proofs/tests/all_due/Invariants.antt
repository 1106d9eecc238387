use Rattle.std.proofs.Common.{All}
use Rattle.nuc_safety.specs.Batch.{IsPossible}
use Rattle.nuc_safety.proofs.tests.all_due.Given as goal

abbrev pub invariant-loop-id : goal.invariant-loop-id
invariant-loop-id l = All (IsPossible l.r.nodes l.l.nodes l.s.nodes) l.ops.items
