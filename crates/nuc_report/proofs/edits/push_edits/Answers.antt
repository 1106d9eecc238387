use Rattle.nuc_report.specs.Report.{edit_line}
use Rattle.nuc_report.proofs.Walk.{walked}
use Rattle.nuc_report.proofs.edits.push_edits.Goals as goal

pub loop-i-preserved : goal.loop-i-preserved
loop-i-preserved c =
    walked edit_line c.args.edits.now.now.edits c.loop-i.i _ _ _ c.loop-i.invariant (rw c.entry.ensures at c.in_ok-push_edit.ensures)
