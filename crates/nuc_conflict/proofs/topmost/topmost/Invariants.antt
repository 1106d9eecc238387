use Rattle.nuc_conflict.specs.Search.{IsTopmostSoFar}
use Rattle.nuc_conflict.proofs.topmost.topmost.Given as goal

abbrev pub invariant-loop-i : goal.invariant-loop-i
invariant-loop-i g l =
    IsTopmostSoFar (g.H.Hashes.same l.h) (g.T.TreeLike.nodes l.r) (g.T.TreeLike.nodes l.l) (g.T.TreeLike.nodes l.s) (g.T.TreeLike.nodes l.tree) l.wanted l.i l.best
