use Rattle.nuc_base.specs.Trees.{WellFormed}
use Rattle.nucleus_bench.proofs.trees.fill.Given as goal

abbrev pub invariant-loop-number : goal.invariant-loop-number
invariant-loop-number g l = WellFormed (g.T.TreeLike.nodes l.tree)
