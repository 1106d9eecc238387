-- A sync, part by part.
use Rattle.std.proofs.Common.{◌≡◌, ◌≢◌, ◌++◌, ℕ, Bool, List, [], ◌∷◌, Some, Result, Ok, Err, refl}
use Rattle.std.specs.Prelude.{IfErr, OnOk}
use Rattle.nuc_log.specs.declared.event.Event.{Event}
use Rattle.nuc_log.specs.declared.event.Event.TheVariants as event
use Rattle.nuc_world.specs.State.{MemberState, member_of}
use Rattle.nuc_world.specs.World.{Steps, Stops, WorldData}
use Rattle.nuc_world.specs.declared.stop.Stop.{Stop}
use Rattle.nuc_world.specs.declared.stop.Stop.TheVariants as stop
use Rattle.nuc_sync.specs.Runs.{Breaks, Runs}
use Rattle.nuc_sync.specs.Tasks.{Task, once, plans, pulls, restarts, sync_tasks}
use Rattle.nuc_sync.proofs.Known.{breaks_known, sync_known, there_is}
use Rattle.nuc_sync.proofs.Members.{breaks_keep_members, count_of, runs_keep_members}
use Rattle.nuc_sync.proofs.Running.{breaks_more, breaks_on, runs_more, runs_on, step_breaks, step_runs}

-- the next task, and the next step
module _ (w : WorldData) (a : List Task) (u : WorldData) (t : Task) (ts : List Task) (first : Runs w a u (t ∷ ts)) where
  pub on_by_task : (v : WorldData) → Runs u (t ∷ []) v [] → Runs w a v ts
  on_by_task v after = runs_on w a u (t ∷ ts) first v ts (runs_more u (t ∷ []) v [] after ts)

  pub stops_in_task : (why : Stop) (v : WorldData) → Breaks u (t ∷ []) why v → Breaks w a why v
  stops_in_task why v after = breaks_on w a u (t ∷ ts) first why v (breaks_more u (t ∷ []) why v after ts)

module _ (w : WorldData) (a : List Task) (u : WorldData) (e : Event) (ts : List Task) (first : Runs w a u (once e ∷ ts)) where
  pub on_by_step : (v : WorldData) → Steps u e v → Runs w a v ts
  on_by_step v s = runs_on w a u (once e ∷ ts) first v ts (step_runs u v (once e) e refl s [] refl ts)

  pub stops_at_step : (why : Stop) (v : WorldData) → Stops u e why v → Breaks w a why v
  stops_at_step why v stops = breaks_on w a u (once e ∷ ts) first why v (step_breaks u v (once e) e refl why stops ts)

-- WHAT IS LEFT of a sync
abbrev pub after_restart : ℕ → Bool → List Task
after_restart client backwards = once (event.List client) ∷ once (event.Scan client) ∷ pulls client ∷ plans client backwards ∷ once (event.Mark client) ∷ []

abbrev pub after_list : ℕ → Bool → List Task
after_list client backwards = once (event.Scan client) ∷ pulls client ∷ plans client backwards ∷ once (event.Mark client) ∷ []

abbrev pub after_scan : ℕ → Bool → List Task
after_scan client backwards = pulls client ∷ plans client backwards ∷ once (event.Mark client) ∷ []

abbrev pub after_pulls : ℕ → Bool → List Task
after_pulls client backwards = plans client backwards ∷ once (event.Mark client) ∷ []

module _ (client : ℕ) (backwards : Bool) (w a : WorldData) (restarted : Runs w (restarts client ∷ []) a []) where
  pub at_list : Runs w (sync_tasks client backwards) a (after_restart client backwards)
  at_list = runs_more w (restarts client ∷ []) a [] restarted (after_restart client backwards)

  pub at_scan : (b : WorldData) → Steps a (event.List client) b → Runs w (sync_tasks client backwards) b (after_list client backwards)
  at_scan b s = on_by_step w (sync_tasks client backwards) a (event.List client) (after_list client backwards) at_list b s

  pub at_pulls : (b c : WorldData) → Steps a (event.List client) b → Steps b (event.Scan client) c → Runs w (sync_tasks client backwards) c (after_scan client backwards)
  at_pulls b c s t = on_by_step w (sync_tasks client backwards) b (event.Scan client) (after_scan client backwards) (at_scan b s) c t

  pub at_plans : (b c d : WorldData) → Steps a (event.List client) b → Steps b (event.Scan client) c → Runs c (pulls client ∷ []) d []
      → Runs w (sync_tasks client backwards) d (after_pulls client backwards)
  at_plans b c d s t r = on_by_task w (sync_tasks client backwards) c (pulls client) (after_pulls client backwards) (at_pulls b c s t) d r

  pub at_mark : (b c d e : WorldData) → Steps a (event.List client) b → Steps b (event.Scan client) c → Runs c (pulls client ∷ []) d []
      → Runs d (plans client backwards ∷ []) e [] → Runs w (sync_tasks client backwards) e (once (event.Mark client) ∷ [])
  at_mark b c d e s t r p = on_by_task w (sync_tasks client backwards) d (plans client backwards) (once (event.Mark client) ∷ []) (at_plans b c d s t r) e p

-- WHAT A SYNC KEEPS
pub ends_keep_members : {T : Type 0} (r : Result T Stop) (w : WorldData) (ts : List Task) (v : WorldData) → OnOk r (Runs w ts v []) → IfErr r (λ (why : Stop). Breaks w ts why v)
    → count_of v.now ≡ count_of w.now
ends_keep_members (Ok x) w ts v ran broke = runs_keep_members w ts v [] ran
ends_keep_members (Err why) w ts v ran broke = breaks_keep_members w ts why v broke

pub client_known : (client : ℕ) (backwards : Bool) (w : WorldData) (m : MemberState) → member_of client w.now.members ≡ Some m
    → (why : Stop) (v : WorldData) → Breaks w (sync_tasks client backwards) why v → why ≢ stop.NoClient
client_known client backwards w m is why v breaks =
    breaks_known w (sync_tasks client backwards) why v (sync_known (count_of w.now) client backwards (there_is client w.now.members m is)) breaks
