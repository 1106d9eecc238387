-- What is to be done, step by step: which event is next, and what its reply asks for.
use Rattle.std.specs.Prelude.{◌==◌, ℕ, Bool, true, false, cond, map, reverse, List, [], ◌∷◌, ◌++◌, Option, None, Some}
use Rattle.nuc_class.specs.declared.op.Effect.{Effect}
use Rattle.nuc_class.specs.declared.op.Effect.TheVariants as effect
use Rattle.nuc_class.specs.declared.op.Op.{Op}
use Rattle.nuc_log.specs.declared.event.Event.{Event}
use Rattle.nuc_log.specs.declared.event.Event.TheVariants as event
use Rattle.nuc_log.specs.declared.reply.Reply.{Reply}
use Rattle.nuc_log.specs.declared.reply.Reply.TheVariants as reply
use Rattle.nuc_log.specs.declared.reply.StartReply.TheVariants as start
use Rattle.nuc_step.specs.declared.answers.Planned.TheVariants as plan
use Rattle.nuc_step.specs.declared.reply.DoneReply.TheVariants as done

-- A TASK is one event; or that a call of a folder is to fail; or a part of a sync of a client:
--   restarts: a restart, where something is in flight
--   pulls: pulls until one brings no entry
--   plans: plans until one is empty, or nothing of what it gave was applied
--   begins, takes, ends: the next step of an operation in flight, the operations left after it, and whether one was applied yet
-- The flag of a sync says whether the operations of a batch are carried out from the last to the first.
pub data Task : Type 0 where
  once : Event → Task
  fails : (client call : ℕ) → Task
  restarts : ℕ → Task
  pulls : ℕ → Task
  plans : ℕ → Bool → Task
  begins : ℕ → Bool → (number : ℕ) → (left : List ℕ) → (applied : Bool) → Task
  takes : ℕ → Bool → (number : ℕ) → (left : List ℕ) → (applied : Bool) → Task
  ends : ℕ → Bool → (number : ℕ) → (left : List ℕ) → (applied : Bool) → Task

-- the event of a task's step, where it takes one
abbrev pub event_of : Task → Option Event
event_of (once e) = Some e
event_of (fails client call) = None
event_of (restarts client) = None
event_of (pulls client) = Some (event.Pull client)
event_of (plans client backwards) = Some (event.Plan client)
event_of (begins client backwards n left applied) = Some (event.Start client n)
event_of (takes client backwards n left applied) = Some (event.Take client n)
event_of (ends client backwards n left applied) = Some (event.Done client n)

-- after an operation: the next one, or the next plan where one was applied
abbrev pub next : ℕ → Bool → List ℕ → Bool → List Task
next client backwards [] true = plans client backwards ∷ []
next client backwards [] false = []
next client backwards (n ∷ left) applied = begins client backwards n left applied ∷ []

abbrev pub numbers_of : List Op → List ℕ
numbers_of ops = map (λ op. op.number) ops

abbrev pub in_order : Bool → List Op → List ℕ
in_order false ops = numbers_of ops
in_order true ops = reverse (numbers_of ops)

-- a mend without effect has taken place already
abbrev pub after_mend : ℕ → Bool → Op → Effect → List Task
after_mend client backwards op effect.Nothing = plans client backwards ∷ []
after_mend client backwards op e = begins client backwards op.number [] false ∷ []

-- what a task still asks for after the reply to its event
abbrev pub more : Task → Reply → List Task
more (pulls client) (reply.Pulled entries cursor) = cond (entries == 0) [] (pulls client ∷ [])
more (plans client backwards) (reply.Plan (plan.Booked op)) = plans client backwards ∷ []
more (plans client backwards) (reply.Plan (plan.Batch ops)) = next client backwards (in_order backwards ops) false
more (plans client backwards) (reply.Plan (plan.Mend op)) = after_mend client backwards op op.effect
more (begins client backwards n left applied) (reply.Started (start.Ok bytes)) = takes client backwards n left applied ∷ []
more (begins client backwards n left applied) r = ends client backwards n left applied ∷ []
more (takes client backwards n left applied) r = ends client backwards n left applied ∷ []
more (ends client backwards n left applied) (reply.Done done.Applied) = next client backwards left true
more (ends client backwards n left applied) r = next client backwards left applied
more _ _ = []

-- A SYNC
abbrev pub sync_tasks : ℕ → Bool → List Task
sync_tasks client backwards = restarts client ∷ once (event.List client) ∷ once (event.Scan client) ∷ pulls client ∷ plans client backwards ∷ once (event.Mark client) ∷ []
