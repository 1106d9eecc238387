use Rattle.nuc_lookup.proofs.Undoing.{none_made}
use Rattle.nuc_lookup.proofs.undo_lookup.UndoLookup.new.Goals as goal

pub invariant_of-result : goal.invariant_of-result
invariant_of-result c = none_made c.new.result c.new-2.result.items c.new.ensures c.new-2.ensures.items
