use Rattle.nuc_replica.proofs.Journaled.{at_forgotten}
use Rattle.nuc_replica.proofs.Paged.{stays_at}
use Rattle.nuc_replica.proofs.trial.Trial.forget.Goals as goal

pub invariant_of-self : goal.invariant_of-self
invariant_of-self c =
    let inside = c.self.inside in
    stays_at inside.journal.now inside.remote c.forget.new.self _ c.forget.ensures.now c.forget.ensures.settled
    (at_forgotten inside.journal.now inside.remote.now c.self.invariant.0) c.self.invariant
