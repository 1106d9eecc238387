use Rattle.nuc_lookup.proofs.Undoing.{none_kept}
use Rattle.nuc_lookup.proofs.undo_lookup.UndoLookup.of.Goals as goal

pub invariant_of-result : goal.invariant_of-result
invariant_of-result c = none_kept c.of-lookup.result c.new.result.items c.len-settled_len.result c.new.ensures.items c.len-settled_len.ensures c.of-lookup.ensures.room
