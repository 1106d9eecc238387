-- Operations that are ready: what a Done makes of a client then.
use Rattle.std.proofs.Common.{◌≡◌, ◌≢◌, ℕ, Option, None, Some, refl}
use Rattle.nuc_class.specs.declared.op.Op.{Op}
use Rattle.nuc_edits.specs.Edits.{Recorded}
use Rattle.nuc_flights.specs.Flights.{Flight, Stage, flight_of, planned, started, taken}
use Rattle.nuc_flights.specs.declared.taken.Taken.{Taken}
use Rattle.nuc_flights.specs.declared.taken.Taken.TheVariants as came
use Rattle.nuc_folder.specs.declared.outcome.Outcome.{Outcome}
use Rattle.nuc_step.specs.Client.{ClientState}
use Rattle.nuc_step.specs.Order.{IsReady, KeyStands, MayLand}
use Rattle.nuc_step.specs.Steps.{CanLand, Ends, EndsAt, EndsOf, IsDone, NothingToEnd, finished, landed, reason_of, with_adoptions}
use Rattle.nuc_step.specs.declared.reason.Reason.{Reason}
use Rattle.nuc_step.specs.declared.reply.DoneReply.{DoneReply}
use Rattle.nuc_step.specs.declared.reply.DoneReply.TheVariants as done
use Rattle.nuc_step.proofs.Flying.{flight_in}

-- WHAT A DONE LEAVES where nothing ends stale, by the flight: a function
abbrev pub ended_as : Op → Taken → Option Reason → ℕ → ClientState → ClientState
ended_as op t None n c = landed op t (finished n t c)
ended_as op t (Some why) n c = finished n t c

abbrev pub ended_at : Op → Stage → ℕ → ClientState → ClientState
ended_at op planned n c = c
ended_at op started n c = c
ended_at op (taken t) n c = ended_as op t (reason_of t) n c

abbrev pub ended : ℕ → Option Flight → ClientState → ClientState
ended n None c = c
ended n (Some f) c = ended_at f.op f.stage n c

-- and what is recorded then
abbrev pub recorded_as : Op → Taken → Option Reason → Recorded → Recorded
recorded_as op t None e = with_adoptions op t e
recorded_as op t (Some why) e = e

abbrev pub recorded_at : Op → Stage → Recorded → Recorded
recorded_at op planned e = e
recorded_at op started e = e
recorded_at op (taken t) e = recorded_as op t (reason_of t) e

abbrev pub recorded : Option Flight → Recorded → Recorded
recorded None e = e
recorded (Some f) e = recorded_at f.op f.stage e

-- it can land
pub can_land_as : (n : ℕ) (c : ClientState) (op : Op) (t : Taken) → reason_of t ≡ None → CanLand c op (came.Folder Outcome.Ok) → KeyStands c.local.keys (taken t)
    → CanLand (finished n t c) op t
can_land_as n c op (came.Folder o) why may key = (record { old = may.0.old; other = may.0.other; legal = may.0.legal; key = key }, may.1)
can_land_as n c op (came.Accepted rev) why may key = may.1
can_land_as n c op (came.Refused r) why may key = cc

module _ (n : ℕ) (c d : ClientState) (e g : Recorded) where
  abbrev Leaves : DoneReply → ClientState → Recorded → Type 0
  Leaves r b f = (d ≡ b) × (g ≡ f) × (r ≢ done.Stale)

  of_nothing : (r : DoneReply) → NothingToEnd c e r d g → Leaves r c e
  of_nothing done.Applied ends = absurd ends
  of_nothing done.Stale ends = absurd ends
  of_nothing (done.Dropped w) ends = absurd ends
  of_nothing done.NoSuchOp ends = (ends.0, ends.1, λ s. cc)

  of_taken : (op : Op) (t : Taken) (why : Option Reason) (r : DoneReply) → (why ≡ None → CanLand (finished n t c) op t) → Ends n op t why c e r d g
      → Leaves r (ended_as op t why n c) (recorded_as op t why e)
  of_taken op t None done.Applied can ends = (ends.1, ends.2, λ s. cc)
  of_taken op t None done.Stale can ends = absurd (ends.0 (can refl))
  of_taken op t None (done.Dropped w) can ends = absurd ends
  of_taken op t None done.NoSuchOp can ends = absurd ends
  of_taken op t (Some reason) done.Applied can ends = absurd ends
  of_taken op t (Some reason) done.Stale can ends = absurd ends
  of_taken op t (Some reason) (done.Dropped w) can ends = (ends.1, ends.2, λ s. cc)
  of_taken op t (Some reason) done.NoSuchOp can ends = absurd ends

  of_stage : (op : Op) (stage : Stage) (r : DoneReply) → CanLand c op (came.Folder Outcome.Ok) → KeyStands c.local.keys stage → EndsAt n op stage c e r d g
      → Leaves r (ended_at op stage n c) (recorded_at op stage e)
  of_stage op planned r may key ends = of_nothing r ends
  of_stage op started r may key ends = of_nothing r ends
  of_stage op (taken t) r may key ends = of_taken op t (reason_of t) r (λ why. can_land_as n c op t why may key) ends

  of_flight : (o : Option Flight) (r : DoneReply) → ((f : Flight) → o ≡ Some f → MayLand c f × KeyStands c.local.keys f.stage) → EndsOf n o c e r d g
      → Leaves r (ended n o c) (recorded o e)
  of_flight None r may ends = of_nothing r ends
  of_flight (Some f) r may ends = let both = may f refl in of_stage f.op f.stage r both.0 both.1 ends

  pub done_leaves : (r : DoneReply) → IsReady c → IsDone n c e r d g → Leaves r (ended n (flight_of n c.flights) c) (recorded (flight_of n c.flights) e)
  done_leaves r ready ends = of_flight (flight_of n c.flights) r
      (λ f there. (flight_in (MayLand c) n c.flights f there ready.each, flight_in (λ g. KeyStands c.local.keys g.stage) n c.flights f there ready.keys)) ends
