use Rattle.nuc_lookup.proofs.Undoing.{kept_if_absent}
use Rattle.nuc_lookup.proofs.undo_lookup.UndoLookup.cut.Goals as goal

pub returns-clause-absent : goal.returns-clause-absent
returns-clause-absent c = kept_if_absent c.set.result _ _ c.args.from c.set.ensures.now c.set.ensures.err_now
