use Rattle.std.proofs.Common.{◌<◌, ◌≤◌, ℕ}
use Rattle.nuc_base.specs.Candidates.{candidate}
use Rattle.nuc_conflict.specs.FreeName.{IsUnused, place_of}
use Rattle.nuc_conflict.proofs.naming.free_name.Given as goal

-- the candidates that were tried are taken
abbrev pub invariant-loop-tried : goal.invariant-loop-tried
invariant-loop-tried g l = (k : ℕ) → 0 < k → k ≤ l.tried
    → ¬ (IsUnused (g.T.TreeLike.nodes l.r) (g.T.TreeLike.nodes l.l) (g.T.TreeLike.nodes l.s) (place_of l.parent.0 (candidate l.name k)))
