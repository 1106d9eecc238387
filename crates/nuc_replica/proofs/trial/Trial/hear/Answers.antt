use Rattle.nuc_replica.proofs.Paged.{at_news, next_follow, stays_at}
use Rattle.nuc_replica.proofs.trial.Trial.hear.Goals as goal

pub hear-requires : goal.hear-requires
hear-requires g c =
    let inside = c.self.inside in
    next_follow inside.journal.now c.next_entries-news.result.now inside.remote.now c.args.count c.cursor.result c.cursor.ensures c.next_entries-news.ensures.entries c.next_entries-news.ensures.journal c.self.invariant.0

pub invariant_of-self : goal.invariant_of-self
invariant_of-self g c =
    let inside = c.self.inside in
    let news = c.next_entries-news in
    stays_at inside.journal.now inside.remote c.hear.new.self _ c.in-Ok.ensures.ok c.hear.ensures.settled
    (at_news inside.journal.now news.result.now inside.remote.now c.args.count c.cursor.result c.cursor.ensures news.ensures.entries c.self.invariant.0) c.self.invariant
