use Rattle.nuc_step.proofs.Trials.{at_done}
use Rattle.nuc_step.proofs.trial.Trial.done.Goals as goal

pub invariant_of-self : goal.invariant_of-self
invariant_of-self g c =
    let inside = c.self.inside in
    at_done inside.journal.now inside.client c.done.new.self c.args.number _ _ c.done.result c.done.ensures.done c.done.ensures.settled c.self.invariant
