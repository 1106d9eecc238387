use Rattle.std.proofs.Common.{List, ◌++◌}
use Rattle.nuc_class.specs.declared.op.Op.{Op}
use Rattle.nuc_safety.specs.FirstFit.{FirstFit, Takes}
use Rattle.nuc_safety.proofs.batch.first_fit.Given as goal

-- whatever the batch takes of the rest, it takes of all that were offered
abbrev pub invariant-loop-op : goal.invariant-loop-op
invariant-loop-op g l =
    (rest all : List Op) → Takes (g.T.TreeLike.nodes l.r) (g.T.TreeLike.nodes l.l) (g.T.TreeLike.nodes l.s) l.taken rest all
    → FirstFit (g.T.TreeLike.nodes l.r) (g.T.TreeLike.nodes l.l) (g.T.TreeLike.nodes l.s) (l.yielded ++ rest) all
