use Rattle.nuc_base.specs.Trees.{WellFormed}
use Rattle.nuc_index.proofs.tests.cuts.Given as goal

abbrev pub invariant-loop-id : goal.invariant-loop-id
invariant-loop-id g l = WellFormed l.trees.plain.nodes × WellFormed l.trees.indexed.nodes
