use Rattle.nuc_base.specs.Trees.{WellFormed}
use Rattle.nuc_base.specs.declared.node.Kind.TheVariants.{Folder}
use Rattle.nuc_safety.proofs.TestKinds.{AllOfKind}
use Rattle.nuc_safety.proofs.tests.tree.Given as goal

abbrev pub invariant-loop-id : goal.invariant-loop-id
invariant-loop-id g l = WellFormed l.tree.nodes × AllOfKind l.tree.nodes Folder
