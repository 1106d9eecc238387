use Rattle.std.proofs.Common.{◌≡◌, ◌≤◌, filter, length, take}
use Rattle.std.specs.FinMap as map
use Rattle.nuc_step.specs.Scanning.{is_other}
use Rattle.nuc_step.proofs.changed_count.other_count.Given as goal

abbrev pub invariant-loop-i : goal.invariant-loop-i
invariant-loop-i g l = record {
  counted : l.count ≡ length (filter (is_other (g.T.TreeLike.nodes l.before) (g.T.TreeLike.nodes l.after)) (take l.i (map.keys (g.T.TreeLike.nodes l.before))));
  few : l.count ≤ l.i;
}
