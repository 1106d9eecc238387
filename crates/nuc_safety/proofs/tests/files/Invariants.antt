use Rattle.nuc_base.specs.Trees.{WellFormed}
use Rattle.nuc_base.specs.declared.node.Kind.TheVariants.{File}
use Rattle.nuc_safety.proofs.TestKinds.{AllOfKind}
use Rattle.nuc_safety.proofs.tests.files.Given as goal

abbrev pub invariant-loop-i : goal.invariant-loop-i
invariant-loop-i l = WellFormed l.tree.nodes × AllOfKind l.tree.nodes File
