use Rattle.nuc_step.proofs.Kept.{kept_dropped}
use Rattle.nuc_step.proofs.client.Client.drop_op.Goals as goal

pub invariant_of-self : goal.invariant_of-self
invariant_of-self g c =
    let inside = c.self.inside in
    kept_dropped inside.remote inside.local inside.synced inside.flights c.finish.new.self inside.counts inside.settled_counts c.args.number c.finish.result
    c.finish.ensures.finished c.finish.ensures.settled c.self.invariant
