-- What the reply to a step tells of the next one.
use Rattle.std.specs.Prelude.{◌≡◌, ◌==◌, ◌<◌, ℕ, Bool, true, false, not, List, [], ◌∷◌, ◌++◌, Option, None, Some}
use Rattle.nuc_class.specs.declared.op.Effect.{Effect}
use Rattle.nuc_class.specs.declared.op.Effect.TheVariants as effect
use Rattle.nuc_class.specs.declared.op.Op.{Op}
use Rattle.nuc_log.specs.declared.event.Event.{Event}
use Rattle.nuc_log.specs.declared.log.LogEntry.{LogEntry}
use Rattle.nuc_log.specs.declared.log.LogEntry.TheVariants as entry
use Rattle.nuc_log.specs.declared.reply.Reply.{Reply}
use Rattle.nuc_log.specs.declared.reply.Reply.TheVariants as reply
use Rattle.nuc_log.specs.declared.reply.StartReply.TheVariants as start
use Rattle.nuc_step.specs.declared.answers.Planned.{Planned}
use Rattle.nuc_step.specs.declared.answers.Planned.TheVariants as plan
use Rattle.nuc_step.specs.declared.reply.DoneReply.TheVariants as done
use Rattle.nuc_world.specs.Units.{units_of}
use Rattle.nuc_world.specs.World.{WorldData}
use Rattle.nuc_world.specs.declared.stop.TheConstants.{MOST_UNITS}
use Rattle.nuc_sync.specs.Tasks.{Task, in_order, next, plans}
use Rattle.nuc_sync.specs.declared.replies.Asked.{Asked}
use Rattle.nuc_sync.specs.declared.replies.Asked.TheVariants as asked

-- the reply of an entry
abbrev pub reply_in : Option LogEntry → Option Reply
reply_in None = None
reply_in (Some (entry.Opened clients kept)) = None
reply_in (Some (entry.Stepped e r)) = Some r

-- the reply of the last step, where a log ends with one
abbrev pub IsLastReply : List LogEntry → Option Reply → Type 0
IsLastReply log o = (before : List LogEntry) (e : Event) (r : Reply) → log ≡ before ++ entry.Stepped e r ∷ [] → o ≡ Some r

-- an entry was pulled
abbrev pub has_pulled : Option Reply → Bool
has_pulled (Some (reply.Pulled entries cursor)) = not (entries == 0)
has_pulled _ = false

-- an operation has begun that is to be taken
abbrev pub has_begun : Option Reply → Bool
has_begun (Some (reply.Started (start.Ok bytes))) = true
has_begun _ = false

-- an operation was applied
abbrev pub has_applied : Option Reply → Bool
has_applied (Some (reply.Done done.Applied)) = true
has_applied _ = false

-- WHAT A PLAN ASKS FOR
abbrev pub AreNumbers : Asked → List ℕ → Type 0
AreNumbers (asked.Operations numbers) ns = numbers.items ≡ ns
AreNumbers a ns = ⊥

abbrev pub AsksMend : Op → Effect → Asked → Type 0
AsksMend op effect.Nothing a = a ≡ asked.Plan
AsksMend op e a = AreNumbers a (op.number ∷ [])

abbrev pub AsksPlan : Bool → Planned → Asked → Type 0
AsksPlan backwards (plan.Booked op) a = a ≡ asked.Plan
AsksPlan backwards (plan.Batch ops) a = AreNumbers a (in_order backwards ops)
AsksPlan backwards (plan.Mend op) a = AsksMend op op.effect a
AsksPlan backwards p a = a ≡ asked.Nothing

abbrev pub Asks : Bool → Option Reply → Asked → Type 0
Asks backwards (Some (reply.Plan p)) a = AsksPlan backwards p a
Asks backwards o a = a ≡ asked.Nothing

abbrev pub asked_tasks : ℕ → Bool → Asked → List Task
asked_tasks client backwards asked.Nothing = []
asked_tasks client backwards asked.Plan = plans client backwards ∷ []
asked_tasks client backwards (asked.Operations numbers) = next client backwards numbers.items false

-- a log had room, and is longer
pub record Advances (w v : WorldData) : Type 0 where
  pub room : units_of w.log < MOST_UNITS
  pub longer : units_of w.log < units_of v.log
