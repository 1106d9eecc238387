use Rattle.nuc_base.specs.Trees.{WellFormed}
use Rattle.nucleus_bench.proofs.planning.filled.Given as goal

abbrev pub invariant-loop-number : goal.invariant-loop-number
invariant-loop-number l = WellFormed l.tree.nodes
