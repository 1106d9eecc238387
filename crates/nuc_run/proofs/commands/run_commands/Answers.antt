use Rattle.std.proofs.Common.{[], sym, subst, ◌∙◌}
use Rattle.std.proofs.lemmas.Result.{err_from_is_err_and}
use Rattle.nuc_sync.specs.Runs.{stays}
use Rattle.nuc_sync.proofs.Members.{runs_keep_members}
use Rattle.nuc_run.specs.Scripts.{IsOf, script_tasks, tasks_of}
use Rattle.nuc_run.proofs.Fitted.{of_script}
use Rattle.nuc_run.proofs.Scripted.{cut_command, item_at, next_command}
use Rattle.nuc_run.proofs.commands.run_commands.Goals as goal

pub loop-command-init : goal.loop-command-init
loop-command-init g c = record { runs = stays c.args.world.now (script_tasks c.args.commands.now); members = c.requires.clients }

pub run_command-requires : goal.run_command-requires
run_command-requires g c =
    let cs = c.args.commands.now in
    let item = c.command-item.result in
    let at = item_at cs c.loop-command.command-index item c.loop-command-test.true c.command-item.is in
    subst (λ n. IsOf n item) (sym c.loop-command.invariant.members) (of_script cs c.loop-command.command-index item c.requires.fit at)

pub returns-in_err-run_command-clause-err : goal.returns-in_err-run_command-clause-err
returns-in_err-run_command-clause-err g c =
    let cs = c.args.commands.now in
    let i = c.loop-command.command-index in
    let item = c.command-item.result in
    let at = item_at cs i item c.loop-command-test.true c.command-item.is in
    let p = err_from_is_err_and c.from_residual.result c.from_residual.ensures.1 in
    rw (p.1, p.2)
    (cut_command c.args.world.now c.loop-command.world c.run_command.new.world cs i item at c.loop-command.invariant.runs c.in_err-run_command.field-0.0
    c.in_err-run_command.ensures.err)

pub loop-command-preserved : goal.loop-command-preserved
loop-command-preserved g c =
    let cs = c.args.commands.now in
    let i = c.loop-command.command-index in
    let item = c.command-item.result in
    let at = item_at cs i item c.loop-command-test.true c.command-item.is in
    record {
      runs = next_command c.args.world.now c.loop-command.world c.run_command.new.world cs i item at c.loop-command.invariant.runs c.in_ok-run_command.ensures.ok;
      members = runs_keep_members c.loop-command.world (tasks_of item) c.run_command.new.world [] c.in_ok-run_command.ensures.ok ∙ c.loop-command.invariant.members;
    }
