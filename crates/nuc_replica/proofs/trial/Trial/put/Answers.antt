use Rattle.std.proofs.Common.{[], ◌∷◌}
use Rattle.nuc_replica.proofs.Paged.{at_more_entries}
use Rattle.nuc_replica.proofs.trial.Trial.put.Goals as goal

pub invariant_of-self : goal.invariant_of-self
invariant_of-self g c =
    let inside = c.self.inside in
    at_more_entries inside.journal.now (c.next_entry-entry.result ∷ []) c.push.new.self.now inside.remote c.in-Ok.ensures.ok c.self.invariant
