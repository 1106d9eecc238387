use Rattle.std.proofs.Common.{◌≡◌, ◌+◌, ◌-◌, ℕ}
use Rattle.std.specs.FinMap.{len}
use Rattle.nuc_plan.specs.Walk.{HasPassed, positions}
use Rattle.nuc_measure.specs.Differing.{difference}
use Rattle.nuc_measure.specs.Totals.{total}
use Rattle.nuc_measure.proofs.count.differing.Given as goal

-- the walk has passed the identities below some number, and those of them that differ are counted
abbrev pub invariant-loop-id : goal.invariant-loop-id
invariant-loop-id g l =
    let r = g.T.TreeLike.nodes l.remote in
    let local = g.T.TreeLike.nodes l.local in
    let s = g.T.TreeLike.nodes l.synced in
    (below : ℕ) × HasPassed r local s below l.walk × (l.count ≡ total below (difference r local s))

-- the positions that are left
abbrev pub decreases-loop-id : goal.decreases-loop-id
decreases-loop-id g l = len (g.T.TreeLike.nodes l.remote) + len (g.T.TreeLike.nodes l.local) + len (g.T.TreeLike.nodes l.synced) - positions l.walk
