use Rattle.std.proofs.Common.{[], ◌∷◌}
use Rattle.nuc_step.proofs.Trials.{at_more_entries}
use Rattle.nuc_step.proofs.trial.Trial.put.Goals as goal

pub invariant_of-self : goal.invariant_of-self
invariant_of-self g c =
    let inside = c.self.inside in
    at_more_entries inside.journal.now (c.next_entry-entry.result ∷ []) c.push.new.self.now inside.client c.in-Ok.ensures.ok c.self.invariant
