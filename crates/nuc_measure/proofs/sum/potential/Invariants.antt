use Rattle.std.proofs.Common.{◌≡◌, ◌+◌, ◌-◌, ◌^◌, ℕ, min}
use Rattle.std.specs.FinMap.{len}
use Rattle.nuc_plan.specs.Walk.{HasPassed, positions}
use Rattle.nuc_measure.specs.Potential.{no_flight, points}
use Rattle.nuc_measure.specs.Totals.{total}
use Rattle.nuc_measure.proofs.sum.potential.Given as goal

-- the walk has passed the identities below some number, and their points are added
abbrev pub invariant-loop-id : goal.invariant-loop-id
invariant-loop-id g l =
    let r = g.T.TreeLike.nodes l.remote in
    let local = g.T.TreeLike.nodes l.local in
    let s = g.T.TreeLike.nodes l.synced in
    (below : ℕ) × HasPassed r local s below l.walk × (l.sum ≡ min (total below (points (g.H.Hashes.same l.h) no_flight r local s)) (2 ^ 64 - 1))

-- the positions that are left
abbrev pub decreases-loop-id : goal.decreases-loop-id
decreases-loop-id g l = len (g.T.TreeLike.nodes l.remote) + len (g.T.TreeLike.nodes l.local) + len (g.T.TreeLike.nodes l.synced) - positions l.walk
