-- How a run ends, by the status before its output.
use Rattle.std.proofs.Common.{◌≡◌, ◌≢◌, ◌≤◌, ◌⊎◌, ℕ, List, [], ◌∷◌, Option, Result, Ok, Err, IfErr, OnOk, Global, inr, refl, sym, ap, subst}
use Rattle.std.specs.declared.rc.RcStr.{RcStr}
use Rattle.nuc_io.specs.Causes.{HasCause}
use Rattle.nuc_log.specs.declared.log.LogEntry.{LogEntry}
use Rattle.nuc_report.specs.declared.status.Status.{Status}
use Rattle.nuc_report.specs.declared.status.Status.TheVariants as status
use Rattle.nuc_script.specs.Commands.{clients_of}
use Rattle.nuc_script.specs.Taking.{ReadsScript}
use Rattle.nuc_script.specs.declared.command.Command.{Command}
use Rattle.nuc_script.specs.declared.script_read.ScriptRead.TheVariants as read
use Rattle.nuc_sync.specs.Runs.{Breaks, Runs}
use Rattle.nuc_world.specs.Units.{units_of}
use Rattle.nuc_world.specs.World.{WorldData, opened}
use Rattle.nuc_world.specs.declared.stop.Stop.{Stop}
use Rattle.nuc_world.specs.declared.stop.Stop.TheVariants as stop
use Rattle.nuc_world.specs.declared.stop.TheConstants.{MOST_UNITS}
use Rattle.nuc_run.specs.Outcome.{AreRun, IsBegun, IsRead, JudgesWords, RunsCommands, RunsScript}
use Rattle.nuc_run.specs.Scripts.{IsCutLog, IsWholeLog, script_tasks}
use Rattle.nuc_run.specs.Statuses.{IsStatusOf, WasRun}

-- a run that came to its end, or was cut, has a status of one that began or wanted memory
pub was_run : (clients : ℕ) (log : List LogEntry) (ran : Result Unit Stop) (b : Status) → IsStatusOf clients log ran b → WasRun b
was_run clients log (Ok x) status.Ok is = tt
was_run clients log (Ok x) status.Stalled is = tt
was_run clients log (Ok x) b is = absurd is
was_run clients log (Err stop.LogFull) status.LogFull is = tt
was_run clients log (Err stop.LogFull) b is = absurd is
was_run clients log (Err stop.FolderFault) status.FolderFault is = tt
was_run clients log (Err stop.FolderFault) b is = absurd is
was_run clients log (Err (stop.TooLong n)) status.ListingTooLong is = tt
was_run clients log (Err (stop.TooLong n)) b is = absurd is
was_run clients log (Err stop.Memory) status.Memory is = tt
was_run clients log (Err stop.Memory) b is = absurd is
was_run clients log (Err stop.NoClient) status.Ok is = absurd is
was_run clients log (Err stop.NoClient) b is = absurd is

pub begun_before : (b : Status) → WasRun b → b ≢ status.Memory → IsBegun b
begun_before status.Memory is other = absurd (other refl)
begun_before b is other = is

-- WHAT CAME OF THE COMMANDS
pub ran_commands : (cs : List Command) (end : WorldData) (log : List LogEntry) → log ≡ end.log → units_of log ≤ MOST_UNITS
    → (ran : Result Unit Stop) (b : Status)
    → OnOk ran (Runs (opened (clients_of cs)) (script_tasks cs) end [])
    → IfErr ran (λ why. Breaks (opened (clients_of cs)) (script_tasks cs) why end × (why ≢ stop.NoClient))
    → IsStatusOf (clients_of cs) log ran b → RunsCommands cs b log
ran_commands cs end log same few (Ok x) status.Ok runs cut is = (record { end = end; runs = runs; log_is = same; few = few }, is)
ran_commands cs end log same few (Ok x) status.Stalled runs cut is = (record { end = end; runs = runs; log_is = same; few = few }, is)
ran_commands cs end log same few (Ok x) b runs cut is = absurd is
ran_commands cs end log same few (Err stop.LogFull) status.LogFull runs cut is = record { end = end; breaks = cut.0; log_is = same; few = few }
ran_commands cs end log same few (Err stop.LogFull) b runs cut is = absurd is
ran_commands cs end log same few (Err stop.FolderFault) status.FolderFault runs cut is = record { end = end; breaks = cut.0; log_is = same; few = few }
ran_commands cs end log same few (Err stop.FolderFault) b runs cut is = absurd is
ran_commands cs end log same few (Err (stop.TooLong n)) status.ListingTooLong runs cut is = (n, record { end = end; breaks = cut.0; log_is = same; few = few })
ran_commands cs end log same few (Err (stop.TooLong n)) b runs cut is = absurd is
ran_commands cs end log same few (Err stop.Memory) status.Memory runs cut is = inr (record { end = end; breaks = cut.0; log_is = same; few = few })
ran_commands cs end log same few (Err stop.Memory) b runs cut is = absurd is
ran_commands cs end log same few (Err stop.NoClient) b runs cut is = absurd (cut.1 refl)

-- THE WHOLE CALL
pub judged : (words : List (RcStr Global)) (cs : List Command) (b : Status) (log : List LogEntry) → AreRun words → RunsCommands cs b log → JudgesWords words b
judged words cs status.Usage log are runs = absurd runs
judged words cs b log are runs = are

pub was_read : (left rest : Option (List ℕ)) (cs : List Command) → ReadsScript left (read.Commands cs) rest → IsRead left rest cs
was_read left rest cs (bytes, took, end, are) = record { bytes = bytes; took = took; end = end; are = are }

pub ran_script : (left rest : Option (List ℕ)) (cs : List Command) (b : Status) (log : List LogEntry) → IsRead left rest cs
    → RunsCommands cs b log → RunsScript left b log rest
ran_script left rest cs status.Ok log is runs = (cs, is, runs)
ran_script left rest cs status.Stalled log is runs = (cs, is, runs)
ran_script left rest cs status.LogFull log is runs = (cs, is, runs)
ran_script left rest cs status.FolderFault log is runs = (cs, is, runs)
ran_script left rest cs status.ListingTooLong log is runs = (cs, is, runs)
ran_script left rest cs status.Memory log is runs = inr (cs, is, runs)
ran_script left rest cs b log is runs = absurd runs
