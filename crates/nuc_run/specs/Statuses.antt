-- Which statuses a run ends with, and when.
use Rattle.std.specs.Prelude.{ℕ, List, Result, Ok, Err}
use Rattle.nuc_log.specs.declared.log.LogEntry.{LogEntry}
use Rattle.nuc_report.specs.declared.status.Status.{Status}
use Rattle.nuc_report.specs.declared.status.Status.TheVariants as status
use Rattle.nuc_world.specs.declared.stop.Stop.{Stop}
use Rattle.nuc_world.specs.declared.stop.Stop.TheVariants as stop
use Rattle.nuc_run.specs.Outcome.{IsBegun}
use Rattle.nuc_run.specs.Stalled.{IsStalled}

-- a run that couldn't begin, and says why
abbrev pub IsRefusal : Status → Type 0
IsRefusal status.Usage = Unit {0}
IsRefusal (status.ScriptFault line kind) = Unit {0}
IsRefusal status.ReadFault = Unit {0}
IsRefusal _ = ⊥

-- a run that began, whether memory sufficed for it or not
abbrev pub WasRun : Status → Type 0
WasRun status.Memory = Unit {0}
WasRun before = IsBegun before

-- one of which something is to be written
abbrev pub HasText : Status → Type 0
HasText status.WriteFault = ⊥
HasText status.Memory = ⊥
HasText _ = Unit {0}

-- by how the commands ended, and by whether a client's last sync stalled
abbrev pub IsStatusOf : ℕ → List LogEntry → Result Unit Stop → Status → Type 0
IsStatusOf clients log (Ok x) status.Ok = ¬ (IsStalled clients log)
IsStatusOf clients log (Ok x) status.Stalled = IsStalled clients log
IsStatusOf clients log (Err stop.LogFull) status.LogFull = Unit {0}
IsStatusOf clients log (Err stop.FolderFault) status.FolderFault = Unit {0}
IsStatusOf clients log (Err (stop.TooLong n)) status.ListingTooLong = Unit {0}
IsStatusOf clients log (Err stop.Memory) status.Memory = Unit {0}
IsStatusOf clients log _ _ = ⊥
