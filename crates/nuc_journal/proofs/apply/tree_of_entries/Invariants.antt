use Rattle.std.proofs.Common.{◌≡◌, take}
use Rattle.nuc_base.specs.Trees.{WellFormed}
use Rattle.nuc_journal.specs.Entries.{tree_of}
use Rattle.nuc_journal.proofs.apply.tree_of_entries.Given as goal

abbrev pub invariant-loop-entry : goal.invariant-loop-entry
invariant-loop-entry l = (l.tree.nodes ≡ tree_of (take l.entry-index l.entries)) × WellFormed l.tree.nodes
