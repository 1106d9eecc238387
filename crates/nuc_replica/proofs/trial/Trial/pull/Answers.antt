use Rattle.nuc_replica.proofs.Paged.{at_page, next_follow, stays_at}
use Rattle.nuc_replica.proofs.trial.Trial.pull.Goals as goal

pub pull-requires : goal.pull-requires
pull-requires g c =
    let inside = c.self.inside in
    next_follow inside.journal.now c.next_entries-page.result.now inside.remote.now c.args.count c.cursor.result c.cursor.ensures c.next_entries-page.ensures.entries c.next_entries-page.ensures.journal c.self.invariant.0

pub invariant_of-self : goal.invariant_of-self
invariant_of-self g c =
    let inside = c.self.inside in
    let page = c.next_entries-page in
    stays_at inside.journal.now inside.remote c.pull.new.self _ c.in-Ok.ensures.ok c.pull.ensures.settled
    (at_page inside.journal.now page.result.now inside.remote.now c.args.count c.cursor.result c.cursor.ensures page.ensures.entries c.self.invariant.0) c.self.invariant
