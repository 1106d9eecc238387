use Rattle.nuc_run.specs.Scripts.{tasks_of}
use Rattle.nuc_run.proofs.Scripted.{if_err, no_memory, on_ok, step_cut, stepped}
use Rattle.nuc_run.proofs.commands.take_step.Goals as goal

pub returns-in-Ok-clause-ok : goal.returns-in-Ok-clause-ok
returns-in-Ok-clause-ok g c =
    on_ok c.step.result (stepped c.args.world.now c.step.new.self c.args.command.now c.in-Ok.event c.in-Ok.ensures) c.step.ensures.ok

pub returns-in-Ok-clause-err : goal.returns-in-Ok-clause-err
returns-in-Ok-clause-err g c =
    if_err c.step.result (step_cut c.args.world.now c.step.new.self c.args.command.now c.in-Ok.event c.in-Ok.ensures c.requires.client) c.step.ensures.err

pub returns-in-Err-clause-err : goal.returns-in-Err-clause-err
returns-in-Err-clause-err g c = no_memory c.args.world.now (tasks_of c.args.command.now)
