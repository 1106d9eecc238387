-- Where all tasks are of clients of the world, none stops for want of its client.
use Rattle.std.proofs.Common.{◌≡◌, ◌≢◌, ◌<◌, ◌≤◌, ◌++◌, ℕ, zero, suc, Bool, true, false, cond, List, [], ◌∷◌, Option, Some, None, length, refl, sym, ap, subst, arith}
use Rattle.std.specs.Prelude.{◌==◌, slice_get}
use Rattle.std.proofs.lemmas.Option.{slice_get_within}
use Rattle.nuc_class.specs.declared.op.Effect.{Effect}
use Rattle.nuc_class.specs.declared.op.Effect.TheVariants as effect
use Rattle.nuc_class.specs.declared.op.Op.{Op}
use Rattle.nuc_log.specs.declared.event.Event.{Event}
use Rattle.nuc_log.specs.declared.event.Event.TheVariants as event
use Rattle.nuc_log.specs.declared.reply.Reply.{Reply}
use Rattle.nuc_log.specs.declared.reply.Reply.TheVariants as reply
use Rattle.nuc_log.specs.declared.reply.StartReply.TheVariants as start
use Rattle.nuc_step.specs.declared.answers.Planned.TheVariants as plan
use Rattle.nuc_step.specs.declared.reply.DoneReply.TheVariants as done
use Rattle.nuc_world.specs.State.{MemberState, WorldState, member_of}
use Rattle.nuc_world.specs.Step.{client_of}
use Rattle.nuc_world.specs.World.{Stops, WorldData, is_of}
use Rattle.nuc_world.specs.declared.stop.Stop.{Stop}
use Rattle.nuc_world.specs.declared.stop.Stop.TheVariants as stop
use Rattle.nuc_sync.specs.Runs.{Breaks, Does, Refuses, Runs, StopsAt, goes, restart_of, stays}
use Rattle.nuc_sync.specs.Tasks.{Task, after_mend, begins, ends, event_of, fails, in_order, more, next, once, plans, pulls, restarts, sync_tasks, takes}
use Rattle.nuc_sync.proofs.Members.{count_of, runs_keep_members}
use Rattle.nuc_flights.specs.Flights.{Flight}

-- CLIENTS count from 1
abbrev pub IsClientOf : ℕ → ℕ → Type 0
IsClientOf count client = (0 < client) × (client ≤ count)

abbrev pub IsEventOf : ℕ → Event → Type 0
IsEventOf count (event.Web edit) = Unit {0}
IsEventOf count e = IsClientOf count (client_of e)

abbrev pub IsTaskOf : ℕ → Task → Type 0
IsTaskOf count (once e) = IsEventOf count e
IsTaskOf count (fails client call) = IsClientOf count client
IsTaskOf count (restarts client) = IsClientOf count client
IsTaskOf count (pulls client) = IsClientOf count client
IsTaskOf count (plans client backwards) = IsClientOf count client
IsTaskOf count (begins client backwards n left applied) = IsClientOf count client
IsTaskOf count (takes client backwards n left applied) = IsClientOf count client
IsTaskOf count (ends client backwards n left applied) = IsClientOf count client

abbrev pub AreTasksOf : ℕ → List Task → Type 0
AreTasksOf count [] = Unit {0}
AreTasksOf count (t ∷ ts) = IsTaskOf count t × AreTasksOf count ts

pub tasks_together : (count : ℕ) (a b : List Task) → AreTasksOf count a → AreTasksOf count b → AreTasksOf count (a ++ b)
tasks_together count [] b first after = after
tasks_together count (t ∷ ts) b (this, first) after = (this, tasks_together count ts b first after)

-- WHO IS THERE
there_at : (members : List MemberState) (i : ℕ) → i < length members → (m : MemberState) × (slice_get members i ≡ Some m)
there_at [] i below = absurd (omega arith)
there_at (m ∷ members) zero below = (m, refl)
there_at (m ∷ members) (suc i) below = there_at members i (omega arith)

pub is_there : (client : ℕ) (members : List MemberState) → IsClientOf (length members) client → (m : MemberState) × (member_of client members ≡ Some m)
is_there zero members is = absurd (omega (arith, is.0))
is_there (suc i) members is = there_at members i (omega (arith, is.1))

pub there_is : (client : ℕ) (members : List MemberState) (m : MemberState) → member_of client members ≡ Some m → IsClientOf (length members) client
there_is zero members m is = cc
there_is (suc i) members m is = let within = slice_get_within members i m is in (omega arith, omega (arith, within))

event_known : (e : Event) (w : WorldState) → IsEventOf (count_of w) e → is_of e w
event_known (event.Web edit) w is = tt
event_known e w is = is_there (client_of e) w.members is

-- WHAT IS ASKED FOR is of the same client
module _ (count client : ℕ) (backwards : Bool) (is : IsClientOf count client) where
  next_known : (left : List ℕ) (applied : Bool) → AreTasksOf count (next client backwards left applied)
  next_known [] true = (is, tt)
  next_known [] false = tt
  next_known (n ∷ left) applied = (is, tt)

  mend_known : (op : Op) (e : Effect) → AreTasksOf count (after_mend client backwards op e)
  mend_known op effect.Nothing = (is, tt)
  mend_known op e = (is, tt)

  pulls_known : (b : Bool) → AreTasksOf count (cond b [] (pulls client ∷ []))
  pulls_known true = tt
  pulls_known false = (is, tt)

  restart_known : (fs : List Flight) → AreTasksOf count (restart_of client fs)
  restart_known [] = tt
  restart_known (f ∷ fs) = (is, tt)

more_known : (count : ℕ) (t : Task) (r : Reply) → IsTaskOf count t → AreTasksOf count (more t r)
more_known count (pulls client) (reply.Pulled entries cursor) is = pulls_known count client false is (entries == 0)
more_known count (plans client backwards) (reply.Plan (plan.Booked op)) is = (is, tt)
more_known count (plans client backwards) (reply.Plan (plan.Batch ops)) is = next_known count client backwards is (in_order backwards ops) false
more_known count (plans client backwards) (reply.Plan (plan.Mend op)) is = mend_known count client backwards is op op.effect
more_known count (begins client backwards n left applied) (reply.Started (start.Ok bytes)) is = (is, tt)
more_known count (begins client backwards n left applied) r is = (is, tt)
more_known count (takes client backwards n left applied) r is = (is, tt)
more_known count (ends client backwards n left applied) (reply.Done done.Applied) is = next_known count client backwards is left true
more_known count (ends client backwards n left applied) r is = next_known count client backwards is left applied
more_known count t r is = tt

does_known : (count : ℕ) (t : Task) (o : Option Event) (w : WorldData) (asked : List Task) (v : WorldData) → IsTaskOf count t → Does t o w asked v → AreTasksOf count asked
does_known count t (Some e) w asked v is does = subst (AreTasksOf count) (sym does.asks) (more_known count t does.reply is)
does_known count (restarts client) None w asked v is does = subst (AreTasksOf count) (sym does.asks) (restart_known count client false is does.member.client.flights)
does_known count (fails client call) None w asked v is does = subst (AreTasksOf count) (sym does.asks) tt
does_known count t None w asked v is does = absurd does

pub runs_known : (count : ℕ) (w : WorldData) (ts : List Task) (v : WorldData) (left : List Task) → AreTasksOf count ts → Runs w ts v left → AreTasksOf count left
runs_known count w ts v left known (stays x a) = known
runs_known count w ts v left known (goes x t a asked u y rest moves later) =
    runs_known count u (asked ++ a) v left (tasks_together count asked a (does_known count t (event_of t) w asked u known.0 moves) known.1) later

-- WHY A TASK OF A CLIENT STOPS
stop_known : (w : WorldData) (e : Event) (why : Stop) (v : WorldData) → is_of e w.now → Stops w e why v → why ≢ stop.NoClient
stop_known w e stop.NoClient v is stops = absurd (stops.0 is)
stop_known w e stop.LogFull v is stops = λ same. cc
stop_known w e stop.FolderFault v is stops = λ same. cc
stop_known w e (stop.TooLong n) v is stops = λ same. cc
stop_known w e stop.Memory v is stops = λ same. cc

only_memory : (w : WorldData) (why : Stop) (v : WorldData) → StopsAt [] w why v → why ≢ stop.NoClient
only_memory w stop.Memory v stops = λ same. cc
only_memory w why v stops = absurd stops

refusal_known : (t : Task) (w : WorldData) (why : Stop) (v : WorldData) → IsTaskOf (count_of w.now) t → Refuses t (event_of t) w why v → why ≢ stop.NoClient
refusal_known (once e) w why v is stops = stop_known w e why v (event_known e w.now is) stops
refusal_known (fails client call) w stop.Memory v is stops = λ same. cc
refusal_known (fails client call) w why v is stops = absurd stops
refusal_known (restarts client) w stop.Memory v is stops = λ same. cc
refusal_known (restarts client) w why v is stops = absurd stops
refusal_known (pulls client) w why v is stops = stop_known w (event.Pull client) why v (is_there client w.now.members is) stops
refusal_known (plans client backwards) w why v is stops = stop_known w (event.Plan client) why v (is_there client w.now.members is) stops
refusal_known (begins client backwards n left applied) w why v is stops = stop_known w (event.Start client n) why v (is_there client w.now.members is) stops
refusal_known (takes client backwards n left applied) w why v is stops = stop_known w (event.Take client n) why v (is_there client w.now.members is) stops
refusal_known (ends client backwards n left applied) w why v is stops = stop_known w (event.Done client n) why v (is_there client w.now.members is) stops

stop_at_known : (ts : List Task) (w : WorldData) (why : Stop) (v : WorldData) → AreTasksOf (count_of w.now) ts → StopsAt ts w why v → why ≢ stop.NoClient
stop_at_known [] w why v known stops = only_memory w why v stops
stop_at_known (t ∷ ts) w why v known stops = refusal_known t w why v known.0 stops

pub breaks_known : (w : WorldData) (ts : List Task) (why : Stop) (v : WorldData) → AreTasksOf (count_of w.now) ts → Breaks w ts why v → why ≢ stop.NoClient
breaks_known w ts why v known breaks =
    let left = runs_known (count_of w.now) w ts breaks.before breaks.left known breaks.runs in
    let same = sym (runs_keep_members w ts breaks.before breaks.left breaks.runs) in
    stop_at_known breaks.left breaks.before why v (subst (λ count. AreTasksOf count breaks.left) same left) breaks.stops

-- A SYNC
pub sync_known : (count client : ℕ) (backwards : Bool) → IsClientOf count client → AreTasksOf count (sync_tasks client backwards)
sync_known count client backwards is = (is, (is, (is, (is, (is, (is, tt))))))
