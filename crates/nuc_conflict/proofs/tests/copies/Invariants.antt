use Rattle.nuc_base.specs.Trees.{WellFormed}
use Rattle.nuc_conflict.proofs.tests.copies.Given as goal

abbrev pub invariant-loop-number : goal.invariant-loop-number
invariant-loop-number g l = WellFormed l.tree.nodes
