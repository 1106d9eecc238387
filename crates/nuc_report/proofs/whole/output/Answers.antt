use Rattle.std.proofs.Common.{◌≡◌, ◌∙◌, sym}
use Rattle.nuc_report.proofs.Statuses.{prints_whole, pushed_four}
use Rattle.nuc_report.proofs.whole.output.Goals as goal

pub returns : goal.returns
returns g c =
    let shown = c.in_ok-push_report.ensures in
    let logged = rw c.entries.ensures at c.in_ok-push_log.ensures in
    let summed = rw (c.as_str.ensures.value, c.in_ok-summary.ensures) at c.in_ok-push_str.ensures.bytes in
    let ended = rw (c.as_str-2.ensures.value, c.in_ok-status_line.ensures) at c.in_ok-push_str-2.ensures.bytes in (
      shown.0,
      shown.1,
      pushed_four _ _ _ _ _ _ _ _ _ c.new-text.ensures.bytes logged shown.2 summed ended ∙ prints_whole c.args.before.now c.args.log.now shown.0 c.requires,
    )
