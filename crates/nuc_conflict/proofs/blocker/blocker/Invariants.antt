use Rattle.std.proofs.Common.{ℕ, ◌+◌, ◌≤◌}
use Rattle.nuc_base.specs.Trees.{IsUnder, Steps}
use Rattle.nuc_conflict.specs.Walk.{IsHighestSoFar}
use Rattle.nuc_conflict.proofs.blocker.blocker.Given as goal

abbrev pub invariant-loop : goal.invariant-loop
invariant-loop g l = record {
  under : IsUnder (g.T.TreeLike.nodes l.r) l.fn.from.0 l.at.0;
  left : (k : ℕ) × Steps (g.T.TreeLike.nodes l.r) 0 l.at.0 k × (k + l.counter ≤ l.end);
  highest : IsHighestSoFar (g.T.TreeLike.nodes l.r) (g.T.TreeLike.nodes l.l) l.fn.from.0 l.at.0 l.highest;
}
