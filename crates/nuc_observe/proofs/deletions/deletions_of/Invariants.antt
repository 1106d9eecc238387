use Rattle.std.proofs.Common.{◌≡◌, take}
use Rattle.std.specs.FinMap as map
use Rattle.nuc_observe.specs.Known.{before_of}
use Rattle.nuc_observe.specs.Observed.{deletions, next_ver_after_deletions}
use Rattle.nuc_observe.proofs.deletions.deletions_of.Given as goal

abbrev pub invariant-loop-i : goal.invariant-loop-i
invariant-loop-i g l = record {
  edits : l.edits.items ≡ deletions (before_of g.T.TreeLike.nodes l.known) l.by_key.numbers l.fn.next_ver (take l.i (map.keys (g.T.TreeLike.nodes l.known.local.now)));
  next : l.next ≡ next_ver_after_deletions (before_of g.T.TreeLike.nodes l.known) l.by_key.numbers l.fn.next_ver (take l.i (map.keys (g.T.TreeLike.nodes l.known.local.now)));
}
