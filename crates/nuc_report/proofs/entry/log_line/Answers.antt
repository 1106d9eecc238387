use Rattle.std.proofs.Common.{◌≡◌}
use Rattle.std.specs.String.{string_bytes}
use Rattle.std.proofs.lemmas.Result.{IfOk-weaker}
use Rattle.nuc_report.specs.Entry.{entry_text}
use Rattle.nuc_report.proofs.Lines.{step_text}
use Rattle.nuc_report.proofs.entry.log_line.Goals as goal

pub returns-in_ok-lines-in-Stepped : goal.returns-in_ok-lines-in-Stepped
returns-in_ok-lines-in-Stepped c =
    IfOk-weaker _ _ (λ text. string_bytes text ≡ entry_text c.args.entry.now) (λ text same.
    rw c.in-Stepped.is (
    step_text _ _ _ _ _ _ c.in_ok-event-in-Stepped.ensures c.in_ok-answer-in-Stepped.ensures c.in_ok-lines-in-Stepped.ensures same
    )
    ) c.format-in-Stepped.ensures.ok
