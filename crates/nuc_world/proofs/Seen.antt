-- What the contracts of a world in code tell, by its parts.
use Rattle.std.specs.Prelude.{Result, Ok, Err, OnErr, OnOk, IfErr, option_map, set, slice_get}
use Rattle.std.proofs.Common.{◌≡◌, ◌<◌, ◌+◌, ℕ, List, Some, None, length, map, get_or, refl, sym, ◌∙◌, ap, subst}
use Rattle.std.proofs.lemmas.Option.{slice_get-map, slice_get_read}
use Rattle.nuc_log.specs.declared.event.Event.{Event}
use Rattle.nuc_log.specs.declared.log.LogEntry.{LogEntry}
use Rattle.nuc_server.specs.WebEdits.{WebState}
use Rattle.nuc_world.specs.Clients.{IsNoClient}
use Rattle.nuc_world.specs.Kept.{IsKept}
use Rattle.nuc_world.specs.Parts.{shared_now, turn_at}
use Rattle.nuc_world.specs.Runs.{IsRecounted}
use Rattle.nuc_world.specs.Shares.{SharesStep, StopsShared}
use Rattle.nuc_world.specs.State.{MemberState, member_of, with_failure}
use Rattle.nuc_world.specs.Turns.{StepsTurn, StopsTurn, client_in}
use Rattle.nuc_world.specs.World.{Steps, Stops, WorldData}
use Rattle.nuc_world.specs.declared.shared.Shared.{Shared}
use Rattle.nuc_world.specs.declared.stop.Stop.{Stop}
use Rattle.nuc_world.proofs.Keeping.{recounts}
use Rattle.nuc_world.proofs.Members.{member_at, no_member, same_set}
use Rattle.nuc_world.proofs.Worlds.{data_with, either_steps, either_stops, shared_steps, shared_stops, state_with}

-- where all are settled, the one at a place is
pub settled_at : {M : Type 0} (f g : M → MemberState) (ms : List M) (i : ℕ) (m : M) → map g ms ≡ map f ms → i < length ms → m ≡ get_or ms i m → g m ≡ f m
settled_at f g ms i m all below at =
    let place : slice_get ms i ≡ Some m = slice_get_read ms (length ms) i m refl below at in
    let then : slice_get (map g ms) i ≡ Some (g m) = slice_get-map g ms i ∙ ap (option_map g) place in
    let now : slice_get (map f ms) i ≡ Some (f m) = slice_get-map f ms i ∙ ap (option_map f) place in
    let same : Some (g m) ≡ Some (f m) = sym then ∙ ap (λ xs. slice_get xs i) all ∙ now in
    cc

-- no client has this number
pub unknown : {M : Type 0} (f : M → MemberState) (ms : List M) (c count : ℕ) (s : WebState) (log : List LogEntry) (w : WorldData)
    → data_with s (map f ms) log ≡ w → count ≡ length ms → IsNoClient c count → member_of c w.now.members ≡ None
unknown f ms c count s log w view many none =
    subst (λ (d : WorldData). member_of c d.now.members ≡ None) view (no_member f ms c (subst (λ n. IsNoClient c n) many none))

-- the one that has it
pub known_at : {M : Type 0} (f : M → MemberState) (ms : List M) (i c : ℕ) (m : M) (s : WebState) (log : List LogEntry) (w : WorldData)
    → data_with s (map f ms) log ≡ w → c ≡ i + 1 → i < length ms → m ≡ get_or ms i m → member_of c w.now.members ≡ Some (f m)
known_at f ms i c m s log w view is below at = subst (λ (d : WorldData). member_of c d.now.members ≡ Some (f m)) view (member_at f ms i c m is below at)

-- A STEP OF A MEMBER, and why there is none
module _ {M : Type 0} (f : M → MemberState) (ms : List M) (i c : ℕ) (m n : M) (s t : WebState) (e : Event) (log now : List LogEntry) (w : WorldData)
    (view : data_with s (map f ms) log ≡ w) (its : client_in e ≡ Some c) (is : c ≡ i + 1) (below : i < length ms) (at : m ≡ get_or ms i m) where
  pub seen_steps : (r : Result (Unit {0}) Stop) → OnOk r (StepsTurn log e (turn_at s (f m)) (turn_at t (f n)) now)
      → OnOk r (Steps w e (data_with t (map f (set ms i n)) now))
  seen_steps r steps = subst (λ (d : WorldData). OnOk r (Steps d e (data_with t (map f (set ms i n)) now))) view
      (either_steps f ms i c m n s t e log now its is below at r steps)

  pub seen_stops : (r : Result (Unit {0}) Stop) → IfErr r (λ why. StopsTurn log e why (turn_at s (f m)) (turn_at t (f n)) × (now ≡ log))
      → IfErr r (λ why. Stops w e why (data_with t (map f (set ms i n)) now))
  seen_stops r stops = subst (λ (d : WorldData). IfErr r (λ why. Stops d e why (data_with t (map f (set ms i n)) now))) view
      (either_stops f ms i c m n s t e log now its is below at r stops)

-- A STEP OF WHAT ALL SHARE, and why there is none
module _ (s t : WebState) (ms : List MemberState) (e : Event) (log now : List LogEntry) (w : WorldData) (view : data_with s ms log ≡ w) where
  pub seen_shared_steps : (r : Result (Unit {0}) Stop) → OnOk r (SharesStep log e s t now) → OnOk r (Steps w e (data_with t ms now))
  seen_shared_steps r shares = subst (λ (d : WorldData). OnOk r (Steps d e (data_with t ms now))) view (shared_steps s t ms e log now r shares)

  pub seen_shared_stops : (r : Result (Unit {0}) Stop) → client_in e ≡ None → IfErr r (λ why. StopsShared log why × (t ≡ s) × (now ≡ log))
      → IfErr r (λ why. Stops w e why (data_with t ms now))
  seen_shared_stops r none stops = subst (λ (d : WorldData). IfErr r (λ why. Stops d e why (data_with t ms now))) view
      (shared_stops s t ms e log now r none stops)

-- A CALL OF A FOLDER IS TOLD TO FAIL
module _ {M : Type 0} (f g : M → MemberState) (ms : List M) (i c : ℕ) (m n : M) (a : Shared) (log : List LogEntry) (w : WorldData)
    (view : data_with (shared_now a) (map f ms) log ≡ w) (is : c ≡ i + 1) (below : i < length ms) (at : m ≡ get_or ms i m)
    (kept : IsKept a (map f ms) (map g ms) log) where
  pub seen_told : {X E : Type 0} (r : Result X E) (k : ℕ) → f n ≡ record (f m) { due = with_failure k (f m).due }
      → OnOk r (IsRecounted c (with_failure k) w.now (state_with (shared_now a) (map f (set ms i n))) × (log ≡ w.log))
  seen_told (Ok x) k told_so = subst (λ (d : WorldData). IsRecounted c (with_failure k) d.now (state_with (shared_now a) (map f (set ms i n))) × (log ≡ d.log)) view
      (recounts f g ms i c m n a log is below at kept k told_so, refl)
  seen_told (Err why) k told_so = tt

-- nothing happened
pub seen_same : {M X E : Type 0} (f : M → MemberState) (ms : List M) (i : ℕ) (m n : M) (s : WebState) (log : List LogEntry) (w : WorldData)
    → data_with s (map f ms) log ≡ w → m ≡ get_or ms i m → (r : Result X E) → f n ≡ f m → OnErr r (data_with s (map f (set ms i n)) log ≡ w)
seen_same f ms i m n s log w view at (Ok x) same = tt
seen_same f ms i m n s log w view at (Err why) same = ap (λ ns. data_with s ns log) (same_set f ms i m n at same) ∙ view

pub not_ok : {X E : Type 0} (r : Result X E) (e : E) (P : Type 0) → r ≡ Err e → OnOk r P
not_ok r e P is = subst (λ q. OnOk q P) (sym is) tt

pub not_err : {X E : Type 0} (r : Result X E) (x : X) (P : Type 0) → r ≡ Ok x → OnErr r P
not_err r x P is = subst (λ q. OnErr q P) (sym is) tt
