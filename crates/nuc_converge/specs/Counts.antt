-- How many operations a part of a log has.
use Rattle.std.specs.Prelude.{ℕ, List, length, sum_by}
use Rattle.nuc_class.specs.declared.op.Effect.{Effect}
use Rattle.nuc_class.specs.declared.op.Effect.TheVariants as effect
use Rattle.nuc_log.specs.declared.log.LogEntry.{LogEntry}
use Rattle.nuc_log.specs.declared.log.LogEntry.TheVariants as entry
use Rattle.nuc_log.specs.declared.reply.Reply.{Reply}
use Rattle.nuc_log.specs.declared.reply.Reply.TheVariants as reply
use Rattle.nuc_step.specs.declared.answers.Planned.{Planned}
use Rattle.nuc_step.specs.declared.answers.Planned.TheVariants as plan
use Rattle.nuc_step.specs.declared.reply.DoneReply.TheVariants as done

-- PLANNED: record steps, the members of batches, and mends
abbrev pub planned_by : Planned → ℕ
planned_by plan.Empty = 0
planned_by (plan.Booked op) = 1
planned_by (plan.Batch ops) = length ops
planned_by (plan.Mend op) = 1
planned_by (plan.Busy k) = 0

-- APPLIED: what takes place at once does so with its plan, all else at its Done
abbrev pub at_once : Effect → ℕ
at_once effect.Nothing = 1
at_once effect.Disk = 0
at_once effect.Commit = 0

abbrev pub applied_by : Planned → ℕ
applied_by plan.Empty = 0
applied_by (plan.Booked op) = 1
applied_by (plan.Batch ops) = 0
applied_by (plan.Mend op) = at_once op.effect
applied_by (plan.Busy k) = 0

-- by the reply to an event
abbrev pub planned_in : Reply → ℕ
planned_in (reply.Plan p) = planned_by p
planned_in _ = 0

abbrev pub applied_in : Reply → ℕ
applied_in (reply.Plan p) = applied_by p
applied_in (reply.Done done.Applied) = 1
applied_in _ = 0

-- DROPPED: a Done that changes nothing, since the outside change wasn't made
abbrev pub dropped_in : Reply → ℕ
dropped_in (reply.Done (done.Dropped why)) = 1
dropped_in _ = 0

abbrev pub of_entry : (Reply → ℕ) → LogEntry → ℕ
of_entry count (entry.Opened clients kept) = 0
of_entry count (entry.Stepped e r) = count r

abbrev pub planned : List LogEntry → ℕ
planned part = sum_by (of_entry planned_in) part

abbrev pub applied : List LogEntry → ℕ
applied part = sum_by (of_entry applied_in) part

abbrev pub dropped : List LogEntry → ℕ
dropped part = sum_by (of_entry dropped_in) part
