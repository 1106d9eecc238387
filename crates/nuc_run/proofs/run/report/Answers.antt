use Rattle.std.specs.String.{string_bytes}
use Rattle.std.proofs.Common.{◌≡◌, ◌∙◌, List, ap, subst}
use Rattle.nuc_log.specs.declared.log.LogEntry.{LogEntry}
use Rattle.nuc_report.specs.Output.{output_of}
use Rattle.nuc_report.specs.Seen.{WorldShown, shown_by}
use Rattle.nuc_run.specs.Outcome.{WritesShown}
use Rattle.nuc_run.proofs.Printed.{run_written, written_shown}
use Rattle.nuc_run.proofs.Viewed.{viewed}
use Rattle.nuc_run.proofs.run.report.Goals as goal

pub returns-in-Ok-clause-output : goal.returns-in-Ok-clause-output
returns-in-Ok-clause-output g c =
    let held = g.K.Sink.held c.args.output.now in
    let now = g.K.Sink.held c.send.new.output in
    let log = c.args.world.now.log in
    let seen = c.in-Ok.ensures.0 in
    let text = c.as_str.ensures.value ∙ c.in-Ok.ensures.2 ∙ ap (λ (es : List LogEntry). output_of c.args.before es seen) c.log-log.ensures.log in
    let shown = written_shown (shown_by c.view-view.result) held now c.args.before log c.send.result c.as_str.result.now seen c.in-Ok.ensures.1 text c.send.ensures.output in
    let same = viewed c.view-view.result c.args.world.now.now c.view-view.ensures.server c.view-view.ensures.edits c.view-view.ensures.members in
    run_written held now c.args.before log c.send.result c.requires (record {
      end = c.args.world.now.now;
      reached = c.log-log.ensures.reached;
      written = subst (λ (s : WorldShown). WritesShown s held c.args.before log c.send.result now) same shown;
    })
