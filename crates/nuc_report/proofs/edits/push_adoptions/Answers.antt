use Rattle.nuc_report.specs.Report.{adoption_line}
use Rattle.nuc_report.proofs.Walk.{walked}
use Rattle.nuc_report.proofs.edits.push_adoptions.Goals as goal

pub loop-i-preserved : goal.loop-i-preserved
loop-i-preserved c =
    walked adoption_line c.args.edits.now.now.adoptions c.loop-i.i _ _ _ c.loop-i.invariant (rw c.adoption.ensures at c.in_ok-push_adoption.ensures)
