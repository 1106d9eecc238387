use Rattle.std.proofs.Common.{◌≡◌}
use Rattle.std.specs.String.{string_bytes}
use Rattle.std.proofs.lemmas.Result.{IfOk-weaker}
use Rattle.nuc_report.specs.Report.{edit_line}
use Rattle.nuc_report.proofs.Lines.{edit_text}
use Rattle.nuc_report.proofs.edits.edit_line.Goals as goal

pub returns : goal.returns
returns c =
    IfOk-weaker _ _ (λ text. string_bytes text ≡ edit_line c.args.edit.now) (λ text same.
    edit_text c.args.edit.now _ _ c.in_ok-change.ensures same
    ) c.format.ensures.ok
