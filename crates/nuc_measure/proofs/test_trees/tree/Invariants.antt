use Rattle.nuc_base.specs.Trees.{WellFormed}
use Rattle.nuc_measure.proofs.test_trees.tree.Given as goal

abbrev pub invariant-loop-id : goal.invariant-loop-id
invariant-loop-id g l = WellFormed l.tree.nodes
