-- A run in which no call is told to fail: what holds after each task, and after each sync.
use Rattle.std.proofs.Common.{◌≡◌, ◌==◌, ◌++◌, ℕ, Bool, true, false, cond, List, [], ◌∷◌, inl, inr, sym, ◌∙◌, subst}
use Rattle.nuc_class.specs.declared.op.Effect.{Effect}
use Rattle.nuc_class.specs.declared.op.Effect.TheVariants as effect
use Rattle.nuc_class.specs.declared.op.Op.{Op}
use Rattle.nuc_fit.specs.Bounds.{FitsEntry, FitsEvent, KeepsToBounds}
use Rattle.nuc_flights.specs.Flights.{Flight}
use Rattle.nuc_log.specs.declared.event.Event.{Event}
use Rattle.nuc_log.specs.declared.event.Event.TheVariants as event
use Rattle.nuc_log.specs.declared.log.LogEntry.{LogEntry}
use Rattle.nuc_log.specs.declared.log.LogEntry.TheVariants as entry
use Rattle.nuc_log.specs.declared.reply.Reply.{Reply}
use Rattle.nuc_log.specs.declared.reply.Reply.TheVariants as reply
use Rattle.nuc_log.specs.declared.reply.StartReply.TheVariants as start
use Rattle.nuc_step.specs.declared.answers.Planned.TheVariants as plan
use Rattle.nuc_step.specs.declared.reply.DoneReply.TheVariants as done
use Rattle.nuc_sync.specs.Runs.{Answers, Moves, Runs, goes, restart_of, stays}
use Rattle.nuc_sync.specs.Tasks.{Task, after_mend, begins, ends, fails, in_order, more, next, once, plans, pulls, restarts, takes}
use Rattle.nuc_world.specs.Runs.{Reaches}
use Rattle.nuc_world.specs.Runs.Reaches.{stepped}
use Rattle.nuc_world.specs.Step.{IsStep}
use Rattle.nuc_world.specs.World.{WorldData}
use Rattle.nuc_world.proofs.Items.{all_append, all_front, all_none}
use Rattle.nuc_run.specs.Quiet.{MarksAreQuiet}
use Rattle.nuc_run.proofs.Calm.{IsCalm, step_calm}
use Rattle.nuc_run.proofs.Entries.{new_or_before}

-- no folder is to fail, the edits keep to their bounds, and each mark is quiet
pub record IsQuietSoFar (w : WorldData) : Type 0 where
  pub reached : Reaches w.log w.now
  pub calm : IsCalm w.now
  pub bounded : KeepsToBounds w.log
  pub marks : MarksAreQuiet w.log

-- AN EVENT that is entered
pub entered : (w v : WorldData) (e : Event) (r : Reply) → IsQuietSoFar w → IsStep w.log w.now e r v.now → v.log ≡ w.log ++ entry.Stepped e r ∷ []
    → FitsEvent e → MarksAreQuiet v.log → IsQuietSoFar v
entered w v e r so step log fits marks = record {
  reached = subst (λ (es : List LogEntry). Reaches es v.now) (sym log) (stepped w.log w.now e r v.now so.reached step);
  calm = step_calm w.log e r w.now v.now step so.calm;
  bounded = subst (λ (es : List LogEntry). KeepsToBounds es) (sym log)
      (all_append FitsEntry w.log (entry.Stepped e r ∷ []) so.bounded (all_front FitsEntry (entry.Stepped e r) [] fits (all_none FitsEntry)));
  marks = marks;
}

-- no mark, and within its bounds
abbrev pub IsPlainEvent : Event → Type 0
IsPlainEvent (event.Mark c) = ⊥
IsPlainEvent e = FitsEvent e

plain_fits : (e : Event) → IsPlainEvent e → FitsEvent e
plain_fits (event.Mark c) is = absurd is
plain_fits e is = is

no_mark : (e : Event) (r : Reply) (c : ℕ) (q : Reply) → IsPlainEvent e → entry.Stepped e r ≡ entry.Stepped (event.Mark c) q → ⊥
no_mark e r c q is same = let mark : e ≡ event.Mark c = cc in subst IsPlainEvent mark is

plain_marks : (w v : WorldData) (e : Event) (r : Reply) → MarksAreQuiet w.log → IsPlainEvent e → v.log ≡ w.log ++ entry.Stepped e r ∷ [] → MarksAreQuiet v.log
plain_marks w v e r marks is log es rest c q at =
    elim (new_or_before w.log (entry.Stepped e r) es (entry.Stepped (event.Mark c) q) rest (sym log ∙ at)) [
      | inl (front, same) ↦ absurd (no_mark e r c q is same)
      | inr (later, front) ↦ marks es later c q front
    ]

plain_step : (w v : WorldData) (e : Event) (r : Reply) → IsQuietSoFar w → IsPlainEvent e → IsStep w.log w.now e r v.now
    → v.log ≡ w.log ++ entry.Stepped e r ∷ [] → IsQuietSoFar v
plain_step w v e r so is step log = entered w v e r so step log (plain_fits e is) (plain_marks w v e r so.marks is log)

-- A TASK that neither marks nor tells a call to fail, and what it asks for
abbrev pub IsPlain : Task → Type 0
IsPlain (once e) = IsPlainEvent e
IsPlain (fails client call) = ⊥
IsPlain _ = Unit {0}

abbrev pub ArePlain : List Task → Type 0
ArePlain [] = Unit {0}
ArePlain (t ∷ ts) = IsPlain t × ArePlain ts

both_plain : (a b : List Task) → ArePlain a → ArePlain b → ArePlain (a ++ b)
both_plain [] b first after = after
both_plain (t ∷ ts) b (this, first) after = (this, both_plain ts b first after)

module _ (client : ℕ) (backwards : Bool) where
  next_plain : (left : List ℕ) (applied : Bool) → ArePlain (next client backwards left applied)
  next_plain [] true = (tt, tt)
  next_plain [] false = tt
  next_plain (n ∷ left) applied = (tt, tt)

  mend_plain : (op : Op) (e : Effect) → ArePlain (after_mend client backwards op e)
  mend_plain op effect.Nothing = (tt, tt)
  mend_plain op e = (tt, tt)

pulls_plain : (client : ℕ) (b : Bool) → ArePlain (cond b [] (pulls client ∷ []))
pulls_plain client true = tt
pulls_plain client false = (tt, tt)

restart_plain : (client : ℕ) (fs : List Flight) → ArePlain (restart_of client fs)
restart_plain client [] = tt
restart_plain client (f ∷ fs) = (tt, tt)

more_plain : (t : Task) (r : Reply) → ArePlain (more t r)
more_plain (pulls client) (reply.Pulled entries cursor) = pulls_plain client (entries == 0)
more_plain (plans client backwards) (reply.Plan (plan.Booked op)) = (tt, tt)
more_plain (plans client backwards) (reply.Plan (plan.Batch ops)) = next_plain client backwards (in_order backwards ops) false
more_plain (plans client backwards) (reply.Plan (plan.Mend op)) = mend_plain client backwards op op.effect
more_plain (begins client backwards n left applied) (reply.Started (start.Ok bytes)) = (tt, tt)
more_plain (begins client backwards n left applied) r = (tt, tt)
more_plain (takes client backwards n left applied) r = (tt, tt)
more_plain (ends client backwards n left applied) (reply.Done done.Applied) = next_plain client backwards left true
more_plain (ends client backwards n left applied) r = next_plain client backwards left applied
more_plain t r = tt

answers_plain : (t : Task) (e : Event) (w : WorldData) (asked : List Task) (v : WorldData) → IsQuietSoFar w → IsPlainEvent e → Answers t e w asked v
    → ArePlain asked × IsQuietSoFar v
answers_plain t e w asked v so is answers =
    (subst ArePlain (sym answers.asks) (more_plain t answers.reply), plain_step w v e answers.reply so is answers.step answers.log)

by_task : (t : Task) (w : WorldData) (asked : List Task) (v : WorldData) → IsQuietSoFar w → IsPlain t → Moves t w asked v → ArePlain asked × IsQuietSoFar v
by_task (once e) w asked v so is moves = answers_plain (once e) e w asked v so is moves
by_task (fails client call) w asked v so is moves = absurd is
by_task (restarts client) w asked v so is moves =
    (subst ArePlain (sym moves.asks) (restart_plain client moves.member.client.flights), subst IsQuietSoFar (sym moves.stays) so)
by_task (pulls client) w asked v so is moves = answers_plain (pulls client) (event.Pull client) w asked v so tt moves
by_task (plans client b) w asked v so is moves = answers_plain (plans client b) (event.Plan client) w asked v so tt moves
by_task (begins client b n left applied) w asked v so is moves = answers_plain (begins client b n left applied) (event.Start client n) w asked v so tt moves
by_task (takes client b n left applied) w asked v so is moves = answers_plain (takes client b n left applied) (event.Take client n) w asked v so tt moves
by_task (ends client b n left applied) w asked v so is moves = answers_plain (ends client b n left applied) (event.Done client n) w asked v so tt moves

-- a run of such tasks
pub plain_run : (w : WorldData) (ts : List Task) (v : WorldData) (left : List Task) → IsQuietSoFar w → ArePlain ts → Runs w ts v left → IsQuietSoFar v
plain_run w ts v left so plain (stays x a) = so
plain_run w ts v left so plain (goes x t a asked u y rest moves later) =
    let (more_are, now) = by_task t x asked u so plain.0 moves in
    plain_run u (asked ++ a) y rest now (both_plain asked a more_are plain.1) later
