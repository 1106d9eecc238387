use Rattle.nuc_replica.proofs.Paged.{next_follow}
use Rattle.nuc_step.proofs.Trials.{at_taken}
use Rattle.nuc_step.proofs.trial.Trial.take.Goals as goal

pub take-requires-clause-news : goal.take-requires-clause-news
take-requires-clause-news g c =
    let inside = c.self.inside in
    next_follow inside.journal.now c.next_entries-news.result.now inside.client.now.remote c.args.heard c.cursor.result c.cursor.ensures c.next_entries-news.ensures.entries c.next_entries-news.ensures.journal c.self.invariant.0

pub invariant_of-self : goal.invariant_of-self
invariant_of-self g c =
    let inside = c.self.inside in
    at_taken inside.journal.now c.next_entries-news.result.now inside.client c.take.new.self c.args.heard c.cursor.result c.args.number c.args.taken c.take.result c.cursor.ensures c.next_entries-news.ensures.entries
    c.take.ensures.answer c.take.ensures.settled c.self.invariant
