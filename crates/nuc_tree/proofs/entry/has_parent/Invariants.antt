use Rattle.std.proofs.Common.{◌≢◌}
use Rattle.std.specs.List.{AllWithin}
use Rattle.nuc_tree.proofs.entry.has_parent.Given as goal

abbrev pub invariant-loop-entry : goal.invariant-loop-entry
invariant-loop-entry l = AllWithin (λ e. e.node.place.parent.0 ≢ l.parent.0) l.entries 0 l.entry-index
