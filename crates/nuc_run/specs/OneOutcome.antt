-- A script's commands decide how a run of them ends and its log, where memory suffices.
use Rattle.std.specs.Prelude.{◌≡◌, ◌≢◌, ◌<◌, ◌≤◌, ℕ, List}
use Rattle.nuc_log.specs.declared.log.LogEntry.{LogEntry}
use Rattle.nuc_report.specs.declared.status.Status.{Status}
use Rattle.nuc_report.specs.declared.status.Status.TheVariants as status
use Rattle.nuc_script.specs.Commands.{clients_of}
use Rattle.nuc_script.specs.declared.command.Command.{Command}
use Rattle.nuc_world.specs.declared.stop.Stop.TheVariants as stop
use Rattle.nuc_run.specs.Outcome.{RunsCommands}
use Rattle.nuc_run.specs.Scripts.{IsCutLog}

-- of as many clients as a world may have, as every script that is read has them
abbrev pub HasSomeClients : List Command → Type 0
HasSomeClients cs = (0 < clients_of cs) × (clients_of cs ≤ 16)

-- two runs that wanted no memory have one status and one log
abbrev pub OneOutcome : Type 0
OneOutcome = (cs : List Command) (a b : Status) (log other : List LogEntry) → HasSomeClients cs → RunsCommands cs a log → RunsCommands cs b other
    → a ≢ status.Memory → b ≢ status.Memory → (a ≡ b) × (log ≡ other)

-- where a folder held too much, it is as much in both
abbrev pub OneNumber : Type 0
OneNumber = (cs : List Command) (n k : ℕ) (log other : List LogEntry) → HasSomeClients cs → IsCutLog cs (stop.TooLong n) log
    → IsCutLog cs (stop.TooLong k) other → n ≡ k
