use Rattle.std.proofs.Common.{◌≡◌, ◌<◌, ℕ, Some, slice_get}
use Rattle.nuc_base.specs.Trees.{children}
use Rattle.nuc_class.specs.Sides.{GoingOn, Spared}
use Rattle.nuc_class.proofs.going.+goes.Given as goal

abbrev pub decreases-goes : goal.decreases-goes
decreases-goes g l = l.left

-- each child so far is spared or goes
abbrev pub invariant-loop-i : goal.invariant-loop-i
invariant-loop-i g l = let m = g.T.TreeLike.nodes l.own in (j y : ℕ) → j < l.i → slice_get (children m l.id.0) j ≡ Some y
    → ¬ (Spared l.side (g.T.TreeLike.nodes l.other) m (g.T.TreeLike.nodes l.s) y) → GoingOn l.side (g.T.TreeLike.nodes l.other) m (g.T.TreeLike.nodes l.s) y
