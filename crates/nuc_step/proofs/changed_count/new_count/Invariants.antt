use Rattle.std.proofs.Common.{◌≡◌, ◌≤◌, filter, length, take}
use Rattle.std.specs.FinMap as map
use Rattle.nuc_step.specs.Scanning.{is_absent}
use Rattle.nuc_step.proofs.changed_count.new_count.Given as goal

abbrev pub invariant-loop-i : goal.invariant-loop-i
invariant-loop-i g l = record {
  counted : l.count ≡ length (filter (is_absent (g.T.TreeLike.nodes l.before)) (take l.i (map.keys (g.T.TreeLike.nodes l.after))));
  few : l.count ≤ l.i;
}
