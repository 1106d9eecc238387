use Rattle.nuc_step.proofs.Kept.{kept_started}
use Rattle.nuc_step.proofs.client.Client.start.Goals as goal

pub invariant_of-self : goal.invariant_of-self
invariant_of-self g c =
    let inside = c.self.inside in
    kept_started inside.remote inside.local inside.synced inside.flights c.start.new.self inside.counts inside.settled_counts c.args.number c.start.result
    c.start.ensures.started c.start.ensures.settled c.self.invariant
