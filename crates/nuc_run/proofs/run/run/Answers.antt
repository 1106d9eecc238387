use Rattle.std.specs.Prelude.{IfErr, OnOk}
use Rattle.std.proofs.Common.{◌≡◌, ◌≢◌, ◌≤◌, ◌∙◌, ℕ, List, [], ap, subst, sym}
use Rattle.nuc_log.specs.declared.log.LogEntry.{LogEntry}
use Rattle.nuc_script.specs.Commands.{clients_of}
use Rattle.nuc_sync.specs.Runs.{Breaks, Runs}
use Rattle.nuc_world.specs.Units.{units_of}
use Rattle.nuc_world.specs.World.{WorldData, opened}
use Rattle.nuc_world.specs.declared.stop.Stop.{Stop}
use Rattle.nuc_world.specs.declared.stop.Stop.TheVariants as stop
use Rattle.nuc_world.specs.declared.stop.TheConstants.{MOST_UNITS}
use Rattle.nuc_run.specs.Scripts.{script_tasks}
use Rattle.nuc_run.specs.Statuses.{IsStatusOf}
use Rattle.nuc_run.proofs.Ended.{ran_commands}
use Rattle.nuc_run.proofs.run.run.Goals as goal

pub returns-clause-before : goal.returns-clause-before
returns-clause-before g c =
    let cs = c.args.commands.now in
    let end = c.run_commands-ran.new.world in
    let ran = c.run_commands-ran.result in
    let b = c.status_of-before.result in
    let from = c.in-Ok.ensures ∙ ap opened c.clients_of-clients.ensures in
    let runs = subst (λ (w : WorldData). OnOk ran (Runs w (script_tasks cs) end [])) from c.run_commands-ran.ensures.ok in
    let cut = subst (λ (w : WorldData). IfErr ran (λ (why : Stop). Breaks w (script_tasks cs) why end × (why ≢ stop.NoClient))) from c.run_commands-ran.ensures.err in
    let log = c.log.ensures.log ∙ sym c.into_log.ensures.log in
    let is = subst (λ (n : ℕ). IsStatusOf n c.log.result.now ran b) c.clients_of-clients.ensures c.status_of-before.ensures in
    let judged = subst (λ (es : List LogEntry). IsStatusOf (clients_of cs) es ran b) log is in
    let few = subst (λ (es : List LogEntry). units_of es ≤ MOST_UNITS) (sym c.into_log.ensures.log) c.log.ensures.few in
    ran_commands cs end c.into_log.result c.into_log.ensures.log few ran b runs cut judged
