use Rattle.nuc_replica.proofs.Journaled.{at_caught_up}
use Rattle.nuc_replica.proofs.Paged.{stays_at}
use Rattle.nuc_replica.proofs.trial.Trial.catch_up.Goals as goal

pub invariant_of-self : goal.invariant_of-self
invariant_of-self g c =
    let inside = c.self.inside in
    stays_at inside.journal.now inside.remote c.catch_up.new.self _ c.catch_up.ensures.now c.catch_up.ensures.settled
    (at_caught_up inside.journal.now inside.remote.now c.args.rev c.self.invariant.0) c.self.invariant
