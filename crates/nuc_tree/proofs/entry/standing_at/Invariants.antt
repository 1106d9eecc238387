use Rattle.std.specs.List.{AllWithin}
use Rattle.nuc_base.specs.SamePlace.{SamePlace}
use Rattle.nuc_tree.proofs.entry.standing_at.Given as goal

abbrev pub invariant-loop-entry : goal.invariant-loop-entry
invariant-loop-entry l = AllWithin (λ e. ¬ (SamePlace e.node.place (record { parent = l.parent; name = l.name }))) l.entries 0 l.entry-index
