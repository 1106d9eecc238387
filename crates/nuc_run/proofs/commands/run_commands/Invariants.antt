use Rattle.std.proofs.Common.{◌≡◌, drop, length}
use Rattle.nuc_script.specs.Commands.{clients_of}
use Rattle.nuc_sync.specs.Runs.{Runs}
use Rattle.nuc_run.specs.Scripts.{script_tasks}
use Rattle.nuc_run.proofs.commands.run_commands.Given as goal

abbrev pub invariant-loop-command : goal.invariant-loop-command
invariant-loop-command g l = record {
  runs : Runs l.fn.world (script_tasks l.commands) l.world (script_tasks (drop l.command-index l.commands));
  members : length l.world.now.members ≡ clients_of l.commands;
}
