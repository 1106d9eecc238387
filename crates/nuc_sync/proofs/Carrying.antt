-- The steps of a sync as runs.
use Rattle.std.proofs.Common.{◌≡◌, ◌++◌, ◌+◌, ◌<◌, ℕ, Bool, true, false, cond, List, [], ◌∷◌, Option, Some, None, length, drop, get_or, refl, sym, ap, subst, ◌∙◌, add-one, drop-cons, arith}
use Rattle.nuc_flights.specs.Flights.{Flight}
use Rattle.nuc_log.specs.declared.event.Event.TheVariants as event
use Rattle.nuc_log.specs.declared.reply.Reply.{Reply}
use Rattle.nuc_world.specs.State.{MemberState, member_of}
use Rattle.nuc_world.specs.World.{Steps, Stops, WorldData}
use Rattle.nuc_world.specs.declared.stop.Stop.{Stop}
use Rattle.nuc_sync.specs.Asked.{Asks, asked_tasks, has_applied, has_begun, has_pulled}
use Rattle.nuc_sync.specs.Runs.{Breaks, Runs, goes, restart_of, stays}
use Rattle.nuc_sync.specs.Tasks.{Task, begins, ends, next, once, plans, pulls, restarts, takes}
use Rattle.nuc_sync.specs.declared.replies.Asked.{Asked}
use Rattle.nuc_sync.proofs.Asking.{applied_asks, begun_asks, plan_asks, pulled_asks}
use Rattle.nuc_sync.proofs.Running.{breaks_on, runs_on, step_breaks, step_to}

-- what a test of the last reply tells of it
pub told : (f : Option Reply → Bool) (o : Option Reply) (r : Reply) (result : Bool) → o ≡ Some r → result ≡ f o → f (Some r) ≡ result
told f o r result is tests = sym (ap f is) ∙ sym tests

-- AN OPERATION
module _ (client : ℕ) (backwards : Bool) (n : ℕ) (left : List ℕ) (applied : Bool) where
  pub start_runs : (w u : WorldData) (s : Steps w (event.Start client n) u) (begun : Bool) → has_begun (Some s.reply) ≡ begun
      → Runs w (begins client backwards n left applied ∷ []) u (cond begun (takes client backwards n left applied ∷ []) (ends client backwards n left applied ∷ []))
  start_runs w u s begun is = step_to w u (begins client backwards n left applied) (event.Start client n) refl s
      (cond begun (takes client backwards n left applied ∷ []) (ends client backwards n left applied ∷ []))
      (begun_asks client backwards n left applied s.reply ∙ ap (λ (b : Bool). cond b (takes client backwards n left applied ∷ []) (ends client backwards n left applied ∷ [])) is)

  pub take_runs : (w u v : WorldData) → Runs w (begins client backwards n left applied ∷ []) u (takes client backwards n left applied ∷ []) → Steps u (event.Take client n) v
      → Runs w (begins client backwards n left applied ∷ []) v (ends client backwards n left applied ∷ [])
  take_runs w u v first s = runs_on w (begins client backwards n left applied ∷ []) u (takes client backwards n left applied ∷ []) first v (ends client backwards n left applied ∷ [])
      (step_to u v (takes client backwards n left applied) (event.Take client n) refl s (ends client backwards n left applied ∷ []) refl)

  pub take_breaks : (w u : WorldData) → Runs w (begins client backwards n left applied ∷ []) u (takes client backwards n left applied ∷ [])
      → (why : Stop) (v : WorldData) → Stops u (event.Take client n) why v → Breaks w (begins client backwards n left applied ∷ []) why v
  take_breaks w u first why v stops = breaks_on w (begins client backwards n left applied ∷ []) u (takes client backwards n left applied ∷ []) first why v
      (step_breaks u v (takes client backwards n left applied) (event.Take client n) refl why stops [])

  pub done_runs : (w u v : WorldData) → Runs w (begins client backwards n left applied ∷ []) u (ends client backwards n left applied ∷ [])
      → (s : Steps u (event.Done client n) v) (now : Bool) → has_applied (Some s.reply) ≡ now
      → Runs w (begins client backwards n left applied ∷ []) v (next client backwards left (cond now true applied))
  done_runs w u v first s now is = runs_on w (begins client backwards n left applied ∷ []) u (ends client backwards n left applied ∷ []) first v (next client backwards left (cond now true applied))
      (step_to u v (ends client backwards n left applied) (event.Done client n) refl s (next client backwards left (cond now true applied))
      (applied_asks client backwards n left applied s.reply ∙ ap (λ (b : Bool). next client backwards left (cond b true applied)) is))

  pub done_breaks : (w u : WorldData) → Runs w (begins client backwards n left applied ∷ []) u (ends client backwards n left applied ∷ [])
      → (why : Stop) (v : WorldData) → Stops u (event.Done client n) why v → Breaks w (begins client backwards n left applied ∷ []) why v
  done_breaks w u first why v stops = breaks_on w (begins client backwards n left applied ∷ []) u (ends client backwards n left applied ∷ []) first why v
      (step_breaks u v (ends client backwards n left applied) (event.Done client n) refl why stops [])

-- the operations from one on
pub these : (client : ℕ) (backwards : Bool) (applied : Bool) (ns : List ℕ) (i n : ℕ) → i < length ns → n ≡ get_or ns i 0
    → next client backwards (drop i ns) applied ≡ begins client backwards n (drop (i + 1) ns) applied ∷ []
these client backwards applied ns i n below is =
    let cut : drop i ns ≡ n ∷ drop (i + 1) ns = rw (add-one, is) (drop-cons ns i 0 below) in
    ap (λ (xs : List ℕ). next client backwards xs applied) cut

pub one_more : (client : ℕ) (backwards : Bool) (ns : List ℕ) (i n : ℕ) → i < length ns → n ≡ get_or ns i 0 → (w u v : WorldData) (a : List Task) (applied now : Bool)
    → Runs w a u (next client backwards (drop i ns) applied) → Runs u (begins client backwards n (drop (i + 1) ns) applied ∷ []) v (next client backwards (drop (i + 1) ns) now)
    → Runs w a v (next client backwards (drop (i + 1) ns) now)
one_more client backwards ns i n below is w u v a applied now first after =
    runs_on w a u (begins client backwards n (drop (i + 1) ns) applied ∷ []) (subst (λ tasks. Runs w a u tasks) (these client backwards applied ns i n below is) first)
    v (next client backwards (drop (i + 1) ns) now) after

pub one_breaks : (client : ℕ) (backwards : Bool) (ns : List ℕ) (i n : ℕ) → i < length ns → n ≡ get_or ns i 0 → (w u v : WorldData) (a : List Task) (applied : Bool) (why : Stop)
    → Runs w a u (next client backwards (drop i ns) applied) → Breaks u (begins client backwards n (drop (i + 1) ns) applied ∷ []) why v → Breaks w a why v
one_breaks client backwards ns i n below is w u v a applied why first after =
    breaks_on w a u (begins client backwards n (drop (i + 1) ns) applied ∷ []) (subst (λ tasks. Runs w a u tasks) (these client backwards applied ns i n below is) first) why v after

-- A PLAN
pub plan_runs : (client : ℕ) (backwards : Bool) (w u : WorldData) (s : Steps w (event.Plan client) u) (o : Option Reply) (a : Asked) → o ≡ Some s.reply → Asks backwards o a
    → Runs w (plans client backwards ∷ []) u (asked_tasks client backwards a)
plan_runs client backwards w u s o a is asks = step_to w u (plans client backwards) (event.Plan client) refl s (asked_tasks client backwards a)
    (plan_asks client backwards s.reply a (subst (λ (p : Option Reply). Asks backwards p a) is asks))

-- A PULL
pub pull_runs : (client : ℕ) (w u : WorldData) (s : Steps w (event.Pull client) u) (some : Bool) → has_pulled (Some s.reply) ≡ some
    → Runs w (pulls client ∷ []) u (cond some (pulls client ∷ []) [])
pull_runs client w u s some is = step_to w u (pulls client) (event.Pull client) refl s (cond some (pulls client ∷ []) [])
    (pulled_asks client s.reply ∙ ap (λ (b : Bool). cond b (pulls client ∷ []) []) is)

-- A RESTART
flying : (client : ℕ) (fs : List Flight) → 0 < length fs → once (event.Restart client) ∷ [] ≡ restart_of client fs
flying client [] some = absurd (omega arith)
flying client (f ∷ fs) some = refl

landed : (client : ℕ) (fs : List Flight) → length fs ≡ 0 → [] ≡ restart_of client fs
landed client [] none = refl
landed client (f ∷ fs) none = absurd (omega arith)

module _ (client : ℕ) (w : WorldData) (m : MemberState) (was : member_of client w.now.members ≡ Some m) where
  asks_restart : 0 < length m.client.flights → Runs w (restarts client ∷ []) w (once (event.Restart client) ∷ [])
  asks_restart some = goes w (restarts client) [] (once (event.Restart client) ∷ []) w w (once (event.Restart client) ∷ [])
      (record { member = m; was = was; asks = flying client m.client.flights some; stays = refl }) (stays w (once (event.Restart client) ∷ []))

  pub restart_runs : 0 < length m.client.flights → (v : WorldData) → Steps w (event.Restart client) v → Runs w (restarts client ∷ []) v []
  restart_runs some v s = runs_on w (restarts client ∷ []) w (once (event.Restart client) ∷ []) (asks_restart some) v []
      (step_to w v (once (event.Restart client)) (event.Restart client) refl s [] refl)

  pub restart_breaks : 0 < length m.client.flights → (why : Stop) (v : WorldData) → Stops w (event.Restart client) why v → Breaks w (restarts client ∷ []) why v
  restart_breaks some why v stops = breaks_on w (restarts client ∷ []) w (once (event.Restart client) ∷ []) (asks_restart some) why v
      (step_breaks w v (once (event.Restart client)) (event.Restart client) refl why stops [])

  pub no_restart : length m.client.flights ≡ 0 → Runs w (restarts client ∷ []) w []
  no_restart none = goes w (restarts client) [] [] w w [] (record { member = m; was = was; asks = landed client m.client.flights none; stays = refl }) (stays w [])
