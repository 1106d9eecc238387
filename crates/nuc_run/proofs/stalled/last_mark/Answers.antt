use Rattle.nuc_run.proofs.Marks.{marked_at}
use Rattle.nuc_run.proofs.stalled.last_mark.Goals as goal

pub returns-in-Some : goal.returns-in-Some
returns-in-Some c =
    marked_at c.args.client c.entries-entries.result.now c.args.log.now c.loop-left.left c.index-entries-left.result c.in-Some.mark c.entries-entries.ensures
    c.loop-left-test.true c.loop-left.invariant.within c.loop-left.invariant.none c.index-entries-left.is c.in-Some.ensures
