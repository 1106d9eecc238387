use Rattle.nuc_report.proofs.Statuses.{usage_shown}
use Rattle.nuc_report.proofs.whole.refusal.Goals as goal

pub returns-in_ok-push_str-in-Usage : goal.returns-in_ok-push_str-in-Usage
returns-in_ok-push_str-in-Usage c =
    usage_shown _ _ _ _ c.in-Usage.is c.in_ok-text-in-Usage.ensures.ok c.in_ok-status_line-in-Usage.ensures
    (rw c.as_str.ensures.value at c.in_ok-push_str-in-Usage.ensures.bytes)
