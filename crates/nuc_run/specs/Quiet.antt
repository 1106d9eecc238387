-- That a script none of whose folders is told to fail ends quiet.
use Rattle.std.specs.Prelude.{◌≡◌, ◌++◌, ℕ, All, List, [], ◌∷◌}
use Rattle.nuc_log.specs.declared.event.Event.TheVariants as event
use Rattle.nuc_log.specs.declared.log.LogEntry.{LogEntry}
use Rattle.nuc_log.specs.declared.log.LogEntry.TheVariants as entry
use Rattle.nuc_log.specs.declared.reply.Reply.{Reply}
use Rattle.nuc_quiet.specs.Laws.{EndsQuiet}
use Rattle.nuc_report.specs.declared.status.Status.{Status}
use Rattle.nuc_report.specs.declared.status.Status.TheVariants as status
use Rattle.nuc_script.specs.Reading.{script_of}
use Rattle.nuc_script.specs.declared.command.Command.{Command}
use Rattle.nuc_script.specs.declared.command.Command.TheVariants as command
use Rattle.nuc_script.specs.declared.script_read.ScriptRead.TheVariants as read
use Rattle.nuc_transfer.specs.Transfer.{Collision}
use Rattle.nuc_world.specs.Runs.{Reaches}
use Rattle.nuc_world.specs.State.{WorldState}
use Rattle.nuc_run.specs.Outcome.{RunsCommands}

-- no call of a folder is told to fail
abbrev pub IsNoFailure : Command → Type 0
IsNoFailure (command.Fail client call) = ⊥
IsNoFailure _ = Unit {0}

abbrev pub HasNoFailures : List Command → Type 0
HasNoFailures cs = All IsNoFailure cs

-- the log leads to a world in which a client has just been marked quiet: its three trees are equal, nothing is in flight, and its
-- folder holds just what its Local says
pub record IsMarkedQuiet (c : ℕ) (log : List LogEntry) : Type 0 where
  pub now : WorldState
  pub reached : Reaches log now
  pub ends : EndsQuiet c (record { now = now; log = log })

-- so it is behind each mark of a log, and each sync that comes to its end has one
abbrev pub MarksAreQuiet : List LogEntry → Type 0
MarksAreQuiet log = (es rest : List LogEntry) (c : ℕ) (r : Reply) → log ≡ es ++ entry.Stepped (event.Mark c) r ∷ rest
    → IsMarkedQuiet c (es ++ entry.Stepped (event.Mark c) r ∷ [])

-- no client stalled, and no folder couldn't be listed
abbrev pub EndsWell : Status → Type 0
EndsWell status.Stalled = ⊥
EndsWell status.FolderFault = ⊥
EndsWell _ = Unit {0}

-- what a script without such commands is run to, unless two lists of bytes have one SHA-256
abbrev pub ScriptsEndQuiet : Type 0
ScriptsEndQuiet = (bytes : List ℕ) (cs : List Command) (b : Status) (log : List LogEntry) → script_of bytes ≡ read.Commands cs → HasNoFailures cs
    → RunsCommands cs b log → ¬ Collision → EndsWell b × MarksAreQuiet log
