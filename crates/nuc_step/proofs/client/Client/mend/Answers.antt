use Rattle.nuc_step.specs.Planning.{Planning}
use Rattle.nuc_step.proofs.Notes.{may_fly, mend_sound}
use Rattle.nuc_step.proofs.client.Client.mend.Goals as goal

pub fly_mend-requires-clause-may : goal.fly_mend-requires-clause-may
fly_mend-requires-clause-may g c =
    let p : Planning = record { client = c.args.self.now.now; recorded = c.args.edits.now.now; next_id = c.args.ids.now.next_id } in
    may_fly p.client.local.tree p.client.synced c.args.op (mend_sound p c.args.op c.requires.fit c.requires.plan)
