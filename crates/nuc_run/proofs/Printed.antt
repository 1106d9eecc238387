-- What is written, by the status.
use Rattle.std.proofs.Common.{◌≡◌, ◌≢◌, ◌++◌, ℕ, List, [], ◌∷◌, take, Option, None, Some, Result, Ok, Err, IfOk, map, refl, sym, ◌∙◌, ap, subst, append-nil}
use Rattle.nuc_io.specs.Reading.{Took}
use Rattle.nuc_io.specs.Writing.{Added, WritesAll}
use Rattle.nuc_log.specs.declared.log.LogEntry.{LogEntry}
use Rattle.nuc_report.specs.Output.{PrintsLog, output_of, refusal_text}
use Rattle.nuc_report.specs.Report.{Seen}
use Rattle.nuc_report.specs.Seen.{IsSeen, WorldShown}
use Rattle.nuc_report.specs.declared.status.Status.{Status}
use Rattle.nuc_report.specs.declared.status.Status.TheVariants as status
use Rattle.nuc_script.specs.Taking.{TookLines}
use Rattle.nuc_world.specs.Runs.{Reaches}
use Rattle.nuc_world.specs.State.{WorldState}
use Rattle.nuc_run.specs.Outcome.{EndsAs, IsBegun, WritesLog, WritesOutput, WritesReport, WritesRun, WritesShown, shown_in}
use Rattle.nuc_run.specs.Statuses.{HasText, IsRefusal, WasRun}

pub ends_so : (b : Status) → EndsAs b b
ends_so status.WriteFault = tt
ends_so status.Memory = tt
ends_so b = refl

pub begun_has_text : (b : Status) → IsBegun b → HasText b
begun_has_text status.WriteFault none = absurd none
begun_has_text status.Memory none = absurd none
begun_has_text b is = tt

pub refusal_has_text : (b : Status) → IsRefusal b → HasText b
refusal_has_text status.WriteFault none = absurd none
refusal_has_text status.Memory none = absurd none
refusal_has_text b is = tt

pub begun_prints : (b : Status) → IsBegun b → PrintsLog b
begun_prints status.Ok is = tt
begun_prints status.Stalled is = tt
begun_prints status.LogFull is = tt
begun_prints status.FolderFault is = tt
begun_prints status.ListingTooLong is = tt
begun_prints b none = absurd none

-- all of the text went out
pub all_written : (held now : Option (List ℕ)) (b : Status) (text bytes : List ℕ) → HasText b → bytes ≡ text → Added held bytes now → WritesOutput held b text now
all_written held now status.WriteFault text bytes none same added = absurd none
all_written held now status.Memory text bytes none same added = absurd none
all_written held now b text bytes has same added = subst (λ t. Added held t now) same added

-- OF A RUN
pub run_written : (held now : Option (List ℕ)) (b : Status) (log : List LogEntry) (ended : Status) → IsBegun b → WritesLog held b log ended now → WritesRun held b log ended now
run_written held now status.Ok log ended is written = written
run_written held now status.Stalled log ended is written = written
run_written held now status.LogFull log ended is written = written
run_written held now status.FolderFault log ended is written = written
run_written held now status.ListingTooLong log ended is written = written
run_written held now b log ended none written = absurd none

shown_written : (shown : WorldShown) (held now : Option (List ℕ)) (b : Status) (log : List LogEntry) (ended : Status) → ended ≢ status.Memory
    → WritesReport shown held b log ended now → WritesShown shown held b log ended now
shown_written shown held now b log status.Memory other written = absurd (other refl)
shown_written shown held now b log ended other written = written

-- of one that couldn't begin
pub refusal_written : (held now : Option (List ℕ)) (b : Status) (log : List LogEntry) (ended : Status) → IsRefusal b → WritesOutput held ended (refusal_text b) now → WritesRun held b log ended now
refusal_written held now status.Ok log ended none written = absurd none
refusal_written held now status.Stalled log ended none written = absurd none
refusal_written held now status.LogFull log ended none written = absurd none
refusal_written held now status.FolderFault log ended none written = absurd none
refusal_written held now status.ListingTooLong log ended none written = absurd none
refusal_written held now b log ended is written = written

-- nothing was taken
pub nothing_took : (left : Option (List ℕ)) → Took left [] left
nothing_took None = refl
nothing_took (Some bytes) = (bytes, refl, refl)

-- a text was written that is the output
pub written_shown : (shown : WorldShown) (held now : Option (List ℕ)) (b : Status) (log : List LogEntry) (ended : Status) (text : List ℕ) (seen : Seen) → IsSeen shown seen
    → text ≡ output_of b log seen → WritesOutput held ended text now → WritesShown shown held b log ended now
written_shown shown held now b log status.Memory text seen shows is written = written
written_shown shown held now b log ended text seen shows is written = record {
  seen = seen;
  shows = shows;
  written = subst (λ t. WritesOutput held ended t now) is written;
}
