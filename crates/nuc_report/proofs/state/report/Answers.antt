use Rattle.std.proofs.Common.{◌≡◌, ◌∙◌, ap, ◌++◌}
use Rattle.nuc_report.specs.Report.{report_text}
use Rattle.nuc_report.proofs.state.report.Goals as goal

pub returns : goal.returns
returns g c =
    let shown = c.in_ok-push_report.ensures in
    (shown.0, shown.1, shown.2 ∙ ap (λ start. start ++ report_text shown.0) c.new-text.ensures.bytes)
