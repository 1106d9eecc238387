use Rattle.std.proofs.Common.{ℕ, ◌+◌, ◌≤◌}
use Rattle.std.specs.FinMap as map
use Rattle.nuc_base.specs.Trees.{Steps}
use Rattle.nuc_conflict.proofs.topmost.depth_of.Given as goal

-- so many steps are left to the root
abbrev pub invariant-loop-depth : goal.invariant-loop-depth
invariant-loop-depth g l = let m = g.T.TreeLike.nodes l.tree in
    (k : ℕ) × Steps m 0 l.at.0 k × Steps m 0 l.fn.id.0 (l.depth + k) × (l.depth + k ≤ map.len m)
