use Rattle.std.proofs.Common.{◌+◌, ◌-◌, ℕ}
use Rattle.std.specs.FinMap.{len}
use Rattle.nuc_plan.specs.Walk.{HasPassed, IsDueBelow, positions}
use Rattle.nuc_plan.proofs.all_due.all_due.Given as goal

-- the walk has passed the identities below some number, and what is due at those has been gathered
abbrev pub invariant-loop-id : goal.invariant-loop-id
invariant-loop-id g l =
    let r = g.T.TreeLike.nodes l.r in
    let local = g.T.TreeLike.nodes l.l in
    let s = g.T.TreeLike.nodes l.s in
    (below : ℕ) × HasPassed r local s below l.walk × IsDueBelow (g.H.Hashes.same l.h) r local s below l.ops.items

-- the positions that are left
abbrev pub decreases-loop-id : goal.decreases-loop-id
decreases-loop-id g l = len (g.T.TreeLike.nodes l.r) + len (g.T.TreeLike.nodes l.l) + len (g.T.TreeLike.nodes l.s) - positions l.walk
