use Rattle.nuc_class.specs.declared.wishes.Wish.TheVariants as wish
use Rattle.nuc_conflict.proofs.Search.{NoneBefore}
use Rattle.nuc_conflict.proofs.topmost.least_split.Given as goal

-- none so far needs a split
abbrev pub invariant-loop-i : goal.invariant-loop-i
invariant-loop-i g l =
    NoneBefore (g.H.Hashes.same l.h) (g.T.TreeLike.nodes l.r) (g.T.TreeLike.nodes l.l) (g.T.TreeLike.nodes l.s) (g.T.TreeLike.nodes l.r) wish.Split l.i
