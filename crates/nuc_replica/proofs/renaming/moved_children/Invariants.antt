use Rattle.std.proofs.Common.{◌≡◌, ◌≤◌, length, map, take, ◌-◌}
use Rattle.nuc_base.specs.Trees.{children}
use Rattle.nuc_replica.specs.Renaming.{change_of, moves_of}
use Rattle.nuc_replica.proofs.renaming.moved_children.Given as goal

abbrev pub invariant-loop-id : goal.invariant-loop-id
invariant-loop-id g l =
    (map change_of l.moves.items ≡ take (length l.moves.items) (moves_of (g.T.TreeLike.nodes l.tree) l.from.0 l.to.0))
    × (length l.moves.items ≤ length (children (g.T.TreeLike.nodes l.tree) l.from.0))

-- the children that are left
abbrev pub decreases-loop-id : goal.decreases-loop-id
decreases-loop-id g l = length (children (g.T.TreeLike.nodes l.tree) l.from.0) - length l.moves.items
