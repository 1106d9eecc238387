-- The commands of a script carried out, one after the other.
use Rattle.std.proofs.Common.{◌≡◌, ◌≢◌, ◌<◌, ◌++◌, ◌+◌, ℕ, Bool, zero, suc, List, [], ◌∷◌, length, drop, slice_get, slice_index_or, Option, None, Some, Result, Ok, Err, OnOk, OnErr, IfErr, IfOk, refl, sym, ap, ◌∙◌, subst, arith}
use Rattle.std.proofs.lemmas.Option.{slice_get_read}
use Rattle.nuc_log.specs.declared.event.Event.{Event}
use Rattle.nuc_log.specs.declared.event.Event.TheVariants as event
use Rattle.nuc_script.specs.declared.command.Command.{Command}
use Rattle.nuc_script.specs.declared.command.Command.TheVariants as command
use Rattle.nuc_sync.specs.Runs.{Breaks, Runs, goes, stays}
use Rattle.nuc_sync.specs.Tasks.{Task, fails, once}
use Rattle.nuc_sync.proofs.Known.{AreTasksOf, breaks_known, is_there, sync_known}
use Rattle.nuc_sync.proofs.Running.{breaks_at, breaks_more, breaks_on, runs_on, runs_then, step_breaks, step_runs, stops_for_memory}
use Rattle.nuc_world.specs.Clients.{MissesFailure}
use Rattle.nuc_world.specs.Runs.{IsRecounted}
use Rattle.nuc_world.specs.State.{MemberState, member_of, with_failure}
use Rattle.nuc_world.specs.World.{Steps, Stops, WorldData}
use Rattle.nuc_world.specs.declared.stop.Stop.{Stop}
use Rattle.nuc_world.specs.declared.stop.Stop.TheVariants as stop
use Rattle.nuc_run.specs.Scripts.{IsClientOf, IsEvent, IsOf, script_tasks, tasks_of}

-- BY THE RESULT of a call
pub on_ok : {A E : Type 0} (r : Result A E) {P Q : Type 0} → (P → Q) → OnOk r P → OnOk r Q
on_ok (Ok x) f p = f p
on_ok (Err e) f p = p

pub if_err : {A E : Type 0} (r : Result A E) {P Q : E → Type 0} → ((e : E) → P e → Q e) → IfErr r P → IfErr r Q
if_err (Ok x) f p = p
if_err (Err e) f p = f e p

pub err_both : {A E : Type 0} (r : Result A E) {P : Type 0} {Q R : E → Type 0} → (P → (e : E) → Q e → R e) → OnErr r P → IfErr r Q → IfErr r R
err_both (Ok x) f p q = q
err_both (Err e) f p q = f p e q

-- so a part of a run is cut
abbrev pub IsCut : WorldData → List Task → WorldData → Stop → Type 0
IsCut w ts v why = Breaks w ts why v × (why ≢ stop.NoClient)

-- WHAT A COMMAND ASKS FOR is of the world's clients
tasks_known : (n : ℕ) (c : Command) → IsOf n c → AreTasksOf n (tasks_of c)
tasks_known n (command.Clients count) is = tt
tasks_known n (command.Web edit) is = (tt, tt)
tasks_known n (command.Sync client backwards) is = sync_known n client backwards is
tasks_known n (command.Fail client call) is = (is.0, tt)
tasks_known n c is = (is, tt)

-- A STEP
pub event_task : (c : Command) → IsEvent c → (e : Event) × (tasks_of c ≡ once e ∷ [])
event_task (command.Clients count) none = absurd none
event_task (command.Sync client backwards) none = absurd none
event_task (command.Fail client call) none = absurd none
event_task c is = (_, refl)

pub stepped : (w v : WorldData) (c : Command) (e : Event) → tasks_of c ≡ once e ∷ [] → Steps w e v → Runs w (tasks_of c) v []
stepped w v c e is s = subst (λ ts. Runs w ts v []) (sym is) (step_runs w v (once e) e refl s [] refl [])

pub step_cut : (w v : WorldData) (c : Command) (e : Event) → tasks_of c ≡ once e ∷ [] → IsOf (length w.now.members) c → (why : Stop) → Stops w e why v
    → IsCut w (tasks_of c) v why
step_cut w v c e is of why stops =
    let b : Breaks w (tasks_of c) why v = subst (λ ts. Breaks w ts why v) (sym is) (step_breaks w v (once e) e refl why stops []) in
    (b, breaks_known w (tasks_of c) why v (tasks_known (length w.now.members) c of) b)

pub no_memory : (w : WorldData) (ts : List Task) → IsCut w ts w stop.Memory
no_memory w ts = (breaks_at w ts stop.Memory w (stops_for_memory ts w), λ same. cc)

-- THE OTHERS
pub clients_run : (w : WorldData) (c : Command) (count : ℕ) → c ≡ command.Clients count → Runs w (tasks_of c) w []
clients_run w c count is = subst (λ c. Runs w (tasks_of c) w []) (sym is) (stays w [])

pub sync_there : (w : WorldData) (c : Command) (client : ℕ) (backwards : Bool) → c ≡ command.Sync client backwards → IsOf (length w.now.members) c
    → (m : MemberState) × (member_of client w.now.members ≡ Some m)
sync_there w c client backwards is of = is_there client w.now.members (subst (λ c. IsOf (length w.now.members) c) is of)

-- a folder is told to fail
fail_runs : (w v : WorldData) (client call : ℕ) → 0 < call → IsRecounted client (with_failure call) w.now v.now × (v.log ≡ w.log) → Runs w (fails client call ∷ []) v []
fail_runs w v client call some is = goes w (fails client call) [] [] v v [] (record { some = some; counted = is.0; log = is.1; asks = refl }) (stays v [])

pub failed : (w v : WorldData) (c : Command) (client call : ℕ) → c ≡ command.Fail client call → IsOf (length w.now.members) c
    → IsRecounted client (with_failure call) w.now v.now × (v.log ≡ w.log) → Runs w (tasks_of c) v []
failed w v c client call is of told =
    let there = subst (λ c. IsOf (length w.now.members) c) is of in
    subst (λ c. Runs w (tasks_of c) v []) (sym is) (fail_runs w v client call there.1 told)

not_both : (o : Option MemberState) (m : MemberState) → o ≡ Some m → o ≡ None → ⊥
not_both o m there none = let clash : Some m ≡ None = sym there ∙ none in cc

missed : (w : WorldData) (ts : List Task) (client : ℕ) → IsClientOf (length w.now.members) client → (why : Stop) → MissesFailure client w.now why → IsCut w ts w why
missed w ts client is stop.NoClient none = let there = is_there client w.now.members is in absurd (not_both (member_of client w.now.members) there.0 there.1 none)
missed w ts client is stop.Memory none = no_memory w ts
missed w ts client is why none = absurd none

pub fail_cut : (w v : WorldData) (c : Command) (client call : ℕ) → c ≡ command.Fail client call → IsOf (length w.now.members) c → v ≡ w
    → (why : Stop) → MissesFailure client w.now why → IsCut w (tasks_of c) v why
fail_cut w v c client call is of same why misses =
    let there = subst (λ c. IsOf (length w.now.members) c) is of in
    subst (λ u. IsCut w (tasks_of c) u why) (sym same) (missed w (tasks_of c) client there.0 why misses)

-- ALL COMMANDS
same_command : (x y : Command) → Some x ≡ Some y → x ≡ y
same_command x y e = cc

script_at : (cs : List Command) (i : ℕ) (c : Command) → slice_get cs i ≡ Some c → script_tasks (drop i cs) ≡ tasks_of c ++ script_tasks (drop (suc i) cs)
script_at [] zero c at = cc
script_at [] (suc i) c at = cc
script_at (d ∷ ds) zero c at = ap (λ x. tasks_of x ++ script_tasks ds) (same_command d c at)
script_at (d ∷ ds) (suc i) c at = script_at ds i c at

pub item_at : (cs : List Command) (i : ℕ) (c : Command) → i < length cs → c ≡ slice_index_or cs i c → slice_get cs i ≡ Some c
item_at cs i c within is = slice_get_read cs (length cs) i c refl within is

pub next_command : (w u v : WorldData) (cs : List Command) (i : ℕ) (c : Command) → slice_get cs i ≡ Some c → Runs w (script_tasks cs) u (script_tasks (drop i cs))
    → Runs u (tasks_of c) v [] → Runs w (script_tasks cs) v (script_tasks (drop (i + 1) cs))
next_command w u v cs i c at before this =
    let more = script_tasks (drop (suc i) cs) in
    let one : suc i ≡ i + 1 = omega arith in
    subst (λ k. Runs w (script_tasks cs) v (script_tasks (drop k cs))) one
    (runs_on w (script_tasks cs) u (script_tasks (drop i cs)) before v more
    (subst (λ ts. Runs u ts v more) (sym (script_at cs i c at)) (runs_then u (tasks_of c) v this more v more (stays v more))))

pub cut_command : (w u v : WorldData) (cs : List Command) (i : ℕ) (c : Command) → slice_get cs i ≡ Some c → Runs w (script_tasks cs) u (script_tasks (drop i cs))
    → (why : Stop) → IsCut u (tasks_of c) v why → IsCut w (script_tasks cs) v why
cut_command w u v cs i c at before why cut = (
  breaks_on w (script_tasks cs) u (script_tasks (drop i cs)) before why v
      (subst (λ ts. Breaks u ts why v) (sym (script_at cs i c at)) (breaks_more u (tasks_of c) why v cut.0 (script_tasks (drop (suc i) cs)))),
  cut.1,
)
