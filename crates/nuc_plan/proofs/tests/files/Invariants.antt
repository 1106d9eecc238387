use Rattle.nuc_base.specs.Trees.{WellFormed}
use Rattle.nuc_plan.proofs.tests.files.Given as goal

abbrev pub invariant-loop-i : goal.invariant-loop-i
invariant-loop-i l = WellFormed l.tree.nodes
