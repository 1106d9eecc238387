use Rattle.nuc_base.specs.Trees.{WellFormed}
use Rattle.nuc_index.proofs.tests.answers_as_the_plain_tree_after_many_changes.Given as goal

abbrev pub invariant-loop : goal.invariant-loop
invariant-loop g l = WellFormed l.trees.plain.nodes × WellFormed l.trees.indexed.nodes
