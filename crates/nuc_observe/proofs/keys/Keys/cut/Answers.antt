use Rattle.nuc_lookup.proofs.Undoing.{kept_if_absent}
use Rattle.nuc_observe.proofs.Undoing.{freed}
use Rattle.nuc_observe.proofs.keys.Keys.cut.Goals as goal

pub returns-clause-absent : goal.returns-clause-absent
returns-clause-absent c = kept_if_absent c.change.result _ _ c.args.id.0 c.change.ensures.now c.change.ensures.err_now

pub returns-clause-freed : goal.returns-clause-freed
returns-clause-freed c k = freed c.change.result _ _ c.args.id.0 k c.change.ensures.now
