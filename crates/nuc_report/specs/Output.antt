-- All that a run prints.
use Rattle.std.specs.Prelude.{ℕ, List, [], ◌∷◌, ◌++◌, length, sum_by, codes, decimal}
use Rattle.nuc_class.specs.declared.op.Op.{Op}
use Rattle.nuc_class.specs.declared.op.Verb.{Verb}
use Rattle.nuc_class.specs.declared.op.Verb.TheVariants as verb
use Rattle.nuc_log.specs.declared.log.LogEntry.{LogEntry}
use Rattle.nuc_log.specs.declared.log.LogEntry.TheVariants.{Stepped}
use Rattle.nuc_log.specs.declared.reply.Reply.TheVariants as reply
use Rattle.nuc_report.specs.Entry.{log_text}
use Rattle.nuc_report.specs.Line.{line}
use Rattle.nuc_report.specs.Report.{Seen, report_text}
use Rattle.nuc_report.specs.Usage.{usage_text}
use Rattle.nuc_report.specs.declared.status.Status.{Status}
use Rattle.nuc_report.specs.declared.status.Status.TheVariants as status
use Rattle.nuc_script.specs.declared.fault.LineFault.{LineFault}
use Rattle.nuc_script.specs.declared.fault.LineFault.TheVariants as fault
use Rattle.nuc_step.specs.declared.answers.Planned.TheVariants as plan

-- how many operations an entry's batch has
abbrev pub batched : LogEntry → ℕ
batched (Stepped event (reply.Plan (plan.Batch ops))) = length ops
batched _ = 0

-- 1 for a plan that was a record step
abbrev pub records : LogEntry → ℕ
records (Stepped event (reply.Plan (plan.Booked op))) = 1
records _ = 0

-- 1 for a plan that was a mend
abbrev pub mends : LogEntry → ℕ
mends (Stepped event (reply.Plan (plan.Mend op))) = 1
mends _ = 0

abbrev pub is_copy : Verb → ℕ
is_copy verb.Split = 1
is_copy _ = 0

-- 1 for a mend that made a conflicted copy
abbrev pub copies : LogEntry → ℕ
copies (Stepped event (reply.Plan (plan.Mend op))) = is_copy op.verb
copies _ = 0

-- steps, operations of batches, record steps, mends and conflicted copies
abbrev pub summary_text : List LogEntry → List ℕ
summary_text log =
    line (
    codes "summary" ∷ decimal (length log) ∷ decimal (sum_by batched log) ∷ decimal (sum_by records log) ∷ decimal (sum_by mends log)
    ∷ decimal (sum_by copies log)
    ∷ []
    )

abbrev pub status_number : Status → ℕ
status_number status.Ok = 0
status_number status.Usage = 1
status_number (status.ScriptFault number kind) = 2
status_number status.ReadFault = 3
status_number status.WriteFault = 4
status_number status.Stalled = 6
status_number status.LogFull = 8
status_number status.Memory = 9
status_number status.FolderFault = 10
status_number status.ListingTooLong = 11

abbrev pub fault_word : LineFault → List ℕ
fault_word fault.Many = codes "many"
fault_word fault.Long = codes "long"
fault_word fault.Byte = codes "byte"
fault_word fault.Word = codes "word"
fault_word fault.Count = codes "count"
fault_word fault.Late = codes "late"
fault_word fault.Client = codes "client"
fault_word fault.Number = codes "number"
fault_word fault.Path = codes "path"
fault_word fault.Content = codes "content"
fault_word fault.Order = codes "order"
fault_word fault.Switch = codes "switch"

-- for a fault of the script also its line and its kind
abbrev pub status_words : Status → List (List ℕ)
status_words (status.ScriptFault number kind) = decimal number ∷ fault_word kind ∷ []
status_words _ = []

abbrev pub status_text : Status → List ℕ
status_text ended = line (codes "status" ∷ decimal (status_number ended) ∷ status_words ended)

-- the run began, and all that it did is printed
abbrev pub PrintsLog : Status → Type 0
PrintsLog status.Ok = Unit {0}
PrintsLog status.Usage = ⊥
PrintsLog (status.ScriptFault number kind) = ⊥
PrintsLog status.ReadFault = ⊥
PrintsLog status.WriteFault = ⊥
PrintsLog status.Stalled = Unit {0}
PrintsLog status.LogFull = Unit {0}
PrintsLog status.Memory = ⊥
PrintsLog status.FolderFault = Unit {0}
PrintsLog status.ListingTooLong = Unit {0}

-- what a run prints that has no log: one that couldn't begin says why, one without sink or memory prints nothing
abbrev pub refusal_text : Status → List ℕ
refusal_text status.Usage = usage_text ++ status_text status.Usage
refusal_text (status.ScriptFault number kind) = status_text (status.ScriptFault number kind)
refusal_text status.ReadFault = status_text status.ReadFault
refusal_text _ = []

-- log, report, summary and status
abbrev pub whole_text : Status → List LogEntry → Seen → List ℕ
whole_text before log seen = log_text log ++ report_text seen ++ summary_text log ++ status_text before

-- all that a run prints, by the status that it ended with before any of this was written
abbrev pub output_of : Status → List LogEntry → Seen → List ℕ
output_of status.Ok log seen = whole_text status.Ok log seen
output_of status.Stalled log seen = whole_text status.Stalled log seen
output_of status.LogFull log seen = whole_text status.LogFull log seen
output_of status.FolderFault log seen = whole_text status.FolderFault log seen
output_of status.ListingTooLong log seen = whole_text status.ListingTooLong log seen
output_of before log seen = refusal_text before
