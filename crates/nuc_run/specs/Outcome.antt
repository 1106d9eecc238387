-- What the top call answers, writes and leaves.
use Rattle.std.specs.Prelude.{◌≡◌, ◌⊎◌, ℕ, List, [], ◌∷◌, map, take, codes, Option, Some}
use Rattle.std.specs.Rc.{rc_str_bytes}
use Rattle.std.specs.declared.alloc.Global.{Global}
use Rattle.std.specs.declared.rc.RcStr.{RcStr}
use Rattle.nuc_io.specs.Reading.{Took, AtEnd}
use Rattle.nuc_io.specs.Writing.{Added}
use Rattle.nuc_log.specs.declared.log.LogEntry.{LogEntry}
use Rattle.nuc_report.specs.Output.{output_of, refusal_text}
use Rattle.nuc_report.specs.Report.{Seen}
use Rattle.nuc_report.specs.Seen.{IsSeen, WorldShown}
use Rattle.nuc_report.specs.declared.status.Status.{Status}
use Rattle.nuc_report.specs.declared.status.Status.TheVariants as status
use Rattle.nuc_script.specs.Commands.{clients_of}
use Rattle.nuc_script.specs.Reading.{script_of}
use Rattle.nuc_script.specs.Taking.{ReadsScript}
use Rattle.nuc_script.specs.declared.command.Command.{Command}
use Rattle.nuc_script.specs.declared.script_read.ScriptRead.TheVariants as read
use Rattle.nuc_world.specs.Runs.{Reaches}
use Rattle.nuc_world.specs.State.{MemberState, WorldState}
use Rattle.nuc_world.specs.declared.stop.Stop.TheVariants as stop
use Rattle.nuc_run.specs.Scripts.{IsCutLog, IsWholeLog}
use Rattle.nuc_run.specs.Stalled.{IsStalled}

-- the words are the one word `run`
abbrev pub AreRun : List (RcStr Global) → Type 0
AreRun words = map rc_str_bytes words ≡ codes "run" ∷ []

-- the words are refused exactly where the status says so
abbrev pub JudgesWords : List (RcStr Global) → Status → Type 0
JudgesWords words status.Usage = ¬ (AreRun words)
JudgesWords words _ = AreRun words

-- the source's bytes, to its end, are a script of these commands
pub record IsRead (left rest : Option (List ℕ)) (cs : List Command) : Type 0 where
  pub bytes : List ℕ
  pub took : Took left bytes rest
  pub end : AtEnd rest
  pub are : script_of bytes ≡ read.Commands cs

-- what came of the commands, by the status before the output
abbrev pub RunsCommands : List Command → Status → List LogEntry → Type 0
RunsCommands cs status.Ok log = IsWholeLog cs log × ¬ (IsStalled (clients_of cs) log)
RunsCommands cs status.Stalled log = IsWholeLog cs log × IsStalled (clients_of cs) log
RunsCommands cs status.LogFull log = IsCutLog cs stop.LogFull log
RunsCommands cs status.FolderFault log = IsCutLog cs stop.FolderFault log
RunsCommands cs status.ListingTooLong log = (n : ℕ) × IsCutLog cs (stop.TooLong n) log
RunsCommands cs status.Memory log = (log ≡ []) ⊎ IsCutLog cs stop.Memory log
RunsCommands cs _ log = ⊥

-- by the status before the output: what was left in the source and is, and the log
abbrev pub RunsScript : Option (List ℕ) → Status → List LogEntry → Option (List ℕ) → Type 0
RunsScript left status.Usage log rest = (rest ≡ left) × (log ≡ [])
RunsScript left (status.ScriptFault line kind) log rest = ReadsScript left (read.Fault line kind) rest × (log ≡ [])
RunsScript left status.ReadFault log rest = log ≡ []
RunsScript left status.WriteFault log rest = ⊥
RunsScript left status.Memory log rest = (log ≡ []) ⊎ ((cs : List Command) × IsRead left rest cs × RunsCommands cs status.Memory log)
RunsScript left ended log rest = (cs : List Command) × IsRead left rest cs × RunsCommands cs ended log

-- the script was read to the end of its source
abbrev pub IsBegun : Status → Type 0
IsBegun status.Ok = Unit {0}
IsBegun status.Stalled = Unit {0}
IsBegun status.LogFull = Unit {0}
IsBegun status.FolderFault = Unit {0}
IsBegun status.ListingTooLong = Unit {0}
IsBegun _ = ⊥

-- THE OUTPUT
-- a part of it went out
pub record WritesPart (held : Option (List ℕ)) (text : List ℕ) (now : Option (List ℕ)) : Type 0 where
  pub count : ℕ
  pub added : Added held (take count text) now

-- by the status: the whole output went out; a first part of it, where writing it failed; nothing, where it found no memory
abbrev pub WritesOutput : Option (List ℕ) → Status → List ℕ → Option (List ℕ) → Type 0
WritesOutput held status.WriteFault text now = WritesPart held text now
WritesOutput held status.Memory text now = now ≡ held
WritesOutput held _ text now = Added held text now

-- what a report shows of a world
abbrev pub shown_in : WorldState → WorldShown
shown_in w = record {
  entries = w.shared.entries;
  recorded = w.shared.edits;
  members = map (λ m. record { client = m.client; folder = m.folder.held }) w.members;
}

-- the output is that of the log, of what a report shows of a world, and of the status before
pub record WritesReport (shown : WorldShown) (held : Option (List ℕ)) (before : Status) (log : List LogEntry) (ended : Status) (now : Option (List ℕ)) : Type 0 where
  pub seen : Seen
  pub shows : IsSeen shown seen
  pub written : WritesOutput held ended (output_of before log seen) now

-- where there is memory for it
abbrev pub WritesShown : WorldShown → Option (List ℕ) → Status → List LogEntry → Status → Option (List ℕ) → Type 0
WritesShown shown held before log status.Memory now = now ≡ held
WritesShown shown held before log ended now = WritesReport shown held before log ended now

-- it is that of the world that the log leads to
pub record WritesLog (held : Option (List ℕ)) (before : Status) (log : List LogEntry) (ended : Status) (now : Option (List ℕ)) : Type 0 where
  pub end : WorldState
  pub reached : Reaches log end
  pub written : WritesShown (shown_in end) held before log ended now

abbrev pub WritesRun : Option (List ℕ) → Status → List LogEntry → Status → Option (List ℕ) → Type 0
WritesRun held status.Ok log ended now = WritesLog held status.Ok log ended now
WritesRun held status.Stalled log ended now = WritesLog held status.Stalled log ended now
WritesRun held status.LogFull log ended now = WritesLog held status.LogFull log ended now
WritesRun held status.FolderFault log ended now = WritesLog held status.FolderFault log ended now
WritesRun held status.ListingTooLong log ended now = WritesLog held status.ListingTooLong log ended now
WritesRun held before log ended now = WritesOutput held ended (refusal_text before) now

-- the status is the one before the output, or says that writing this failed or found no memory
abbrev pub EndsAs : Status → Status → Type 0
EndsAs before status.WriteFault = Unit {0}
EndsAs before status.Memory = Unit {0}
EndsAs before ended = ended ≡ before
