use Rattle.nuc_step.proofs.Landed.{synced_put}
use Rattle.nuc_step.proofs.landing.write_synced.Goals as goal

pub returns-in-Put-clause-changed : goal.returns-in-Put-clause-changed
returns-in-Put-clause-changed g c =
    let put = c.put_laid.ensures in
    synced_put c.args.op.now.number c.args.op.now.id.0 c.args.synced.now c.put_laid.new.self put.changed put.settled put.laid

pub returns-in-Cut-clause-changed : goal.returns-in-Cut-clause-changed
returns-in-Cut-clause-changed g c = c.cut_synced.ensures.changed c.args.op.now.number
