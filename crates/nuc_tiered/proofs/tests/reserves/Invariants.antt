use Rattle.std.proofs.Common.{◌+◌, ◌≤◌}
use Rattle.nuc_tiered.proofs.tests.reserves.Given as goal

abbrev pub invariant-loop-x : goal.invariant-loop-x
invariant-loop-x g l = 513 ≤ l.list.spare + l.x
