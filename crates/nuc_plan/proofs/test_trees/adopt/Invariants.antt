use Rattle.nuc_base.specs.Trees.{WellFormed}
use Rattle.nuc_plan.proofs.test_trees.adopt.Given as goal

abbrev pub invariant-loop : goal.invariant-loop
invariant-loop g l = WellFormed l.tree.nodes
