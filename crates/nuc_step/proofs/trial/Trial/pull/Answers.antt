use Rattle.nuc_replica.proofs.Paged.{next_follow}
use Rattle.nuc_step.proofs.Trials.{at_pulled}
use Rattle.nuc_step.proofs.trial.Trial.pull.Goals as goal

pub pull-requires : goal.pull-requires
pull-requires g c =
    let inside = c.self.inside in
    next_follow inside.journal.now c.next_entries-page.result.now inside.client.now.remote c.args.count c.cursor.result c.cursor.ensures c.next_entries-page.ensures.entries c.next_entries-page.ensures.journal c.self.invariant.0

pub invariant_of-self : goal.invariant_of-self
invariant_of-self g c =
    let inside = c.self.inside in
    at_pulled inside.journal.now c.next_entries-page.result.now inside.client c.pull.new.self c.args.count c.cursor.result c.cursor.ensures c.next_entries-page.ensures.entries
    c.in-Ok.ensures.ok c.pull.ensures.settled c.self.invariant
