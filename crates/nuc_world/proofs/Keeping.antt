-- What is always so of a world in code is so after each of its calls.
use Rattle.std.specs.Prelude.{Result, Ok, Err, OnErr, OnOk, IfErr, replicate, set}
use Rattle.std.proofs.Common.{◌≡◌, ◌<◌, ◌≤◌, ◌+◌, ◌∷◌, ℕ, List, [], Some, None, length, map, get_or, refl, sym, ◌∙◌, ap, subst}
use Rattle.std.proofs.lemmas.List.{map-set}
use Rattle.nuc_log.specs.declared.event.Event.{Event}
use Rattle.nuc_log.specs.declared.log.LogEntry.{LogEntry}
use Rattle.nuc_world.specs.Kept.{IsKept}
use Rattle.nuc_world.specs.Parts.{shared_now, shared_then, turn_at}
use Rattle.nuc_world.specs.Runs.{IsRecounted, Reaches, opening}
use Rattle.nuc_world.specs.Runs.Reaches.{opened, told}
use Rattle.nuc_world.specs.Shares.{SharesStep, StopsShared}
use Rattle.nuc_world.specs.State.{MemberState, fresh_member, fresh_shared, with_failure, with_member}
use Rattle.nuc_world.specs.Turns.{StepsTurn, StopsTurn, client_in}
use Rattle.nuc_world.specs.declared.shared.Shared.{Shared}
use Rattle.nuc_world.specs.declared.stop.Stop.{Stop}
use Rattle.nuc_world.proofs.Members.{member_at, other_set, same_set}
use Rattle.nuc_world.proofs.Worlds.{data_with, either_steps, either_stops, reaches_either, same_state, shared_steps, shared_stops, state_with}

-- one is replaced by one that is settled
settled_set : {M : Type 0} (f g : M → MemberState) (ms : List M) (i : ℕ) (n : M) → map g ms ≡ map f ms → g n ≡ f n → map g (set ms i n) ≡ map f (set ms i n)
settled_set f g ms i n all one = map-set g ms i n ∙ ap (λ xs. set xs i (g n)) all ∙ ap (λ x. set (map f ms) i x) one ∙ sym (map-set f ms i n)

module _ {M : Type 0} (f g : M → MemberState) (ms : List M) (i c : ℕ) (m n : M) (a b : Shared) (e : Event) (log now : List LogEntry)
    (is : c ≡ i + 1) (below : i < length ms) (at : m ≡ get_or ms i m) (kept : IsKept a (map f ms) (map g ms) log) where
  pub kept_turn : client_in e ≡ Some c → shared_then b ≡ shared_now b → g n ≡ f n → (r : Result (Unit {0}) Stop)
      → OnOk r (StepsTurn log e (turn_at (shared_now a) (f m)) (turn_at (shared_now b) (f n)) now)
      → IfErr r (λ why. StopsTurn log e why (turn_at (shared_now a) (f m)) (turn_at (shared_now b) (f n)) × (now ≡ log))
      → IsKept b (map f (set ms i n)) (map g (set ms i n)) now
  kept_turn its shared settled r steps stops = record {
    reached = reaches_either (data_with (shared_now a) (map f ms) log) (data_with (shared_now b) (map f (set ms i n)) now) e r kept.reached
        (either_steps f ms i c m n (shared_now a) (shared_now b) e log now its is below at r steps)
        (either_stops f ms i c m n (shared_now a) (shared_now b) e log now its is below at r stops);
    shared_settled = shared;
    members_settled = settled_set f g ms i n kept.members_settled settled;
  }

-- A CALL of its folder is told to fail
module _ {M : Type 0} (f g : M → MemberState) (ms : List M) (i c : ℕ) (m n : M) (a : Shared) (log : List LogEntry)
    (is : c ≡ i + 1) (below : i < length ms) (at : m ≡ get_or ms i m) (kept : IsKept a (map f ms) (map g ms) log) where
  pub recounts : (k : ℕ) → f n ≡ record (f m) { due = with_failure k (f m).due }
      → IsRecounted c (with_failure k) (state_with (shared_now a) (map f ms)) (state_with (shared_now a) (map f (set ms i n)))
  recounts k told_so = record {
    member = f m;
    was = member_at f ms i c m is below at;
    now = same_state (shared_now a) (shared_now a) (map f (set ms i n)) (with_member c (record (f m) { due = with_failure k (f m).due }) (map f ms)) refl
        (other_set f ms i c n is ∙ ap (λ x. with_member c x (map f ms)) told_so);
  }

  pub kept_told : (k : ℕ) → 0 < k → f n ≡ record (f m) { due = with_failure k (f m).due } → g n ≡ f n → IsKept a (map f (set ms i n)) (map g (set ms i n)) log
  kept_told k some told_so settled = record {
    reached = told log (state_with (shared_now a) (map f ms)) c k (state_with (shared_now a) (map f (set ms i n))) kept.reached some (recounts k told_so);
    shared_settled = kept.shared_settled;
    members_settled = settled_set f g ms i n kept.members_settled settled;
  }

  -- nothing happens
  pub kept_same : f n ≡ f m → g n ≡ g m → IsKept a (map f (set ms i n)) (map g (set ms i n)) log
  kept_same one too = subst (λ xs. IsKept a xs (map g (set ms i n)) log) (sym (same_set f ms i m n at one))
      (subst (λ xs. IsKept a (map f ms) xs log) (sym (same_set g ms i m n at too)) kept)

  pub kept_either : {E : Type 0} (r : Result (Unit {0}) E) (k : ℕ) → 0 < k → OnOk r ((f n ≡ record (f m) { due = with_failure k (f m).due }) × (g n ≡ f n))
      → OnErr r ((f n ≡ f m) × (g n ≡ g m)) → IsKept a (map f (set ms i n)) (map g (set ms i n)) log
  kept_either (Ok u) k some told_so same = kept_told k some told_so.0 told_so.1
  kept_either (Err why) k some told_so same = kept_same same.0 same.1

-- what is shared alone changes
pub kept_shared : (ms before : List MemberState) (a b : Shared) (e : Event) (log now : List LogEntry) → IsKept a ms before log → client_in e ≡ None
    → shared_then b ≡ shared_now b → (r : Result (Unit {0}) Stop) → OnOk r (SharesStep log e (shared_now a) (shared_now b) now)
    → IfErr r (λ why. StopsShared log why × (shared_now b ≡ shared_now a) × (now ≡ log)) → IsKept b ms before now
kept_shared ms before a b e log now kept none shared r steps stops = record {
  reached = reaches_either (data_with (shared_now a) ms log) (data_with (shared_now b) ms now) e r kept.reached
      (shared_steps (shared_now a) (shared_now b) ms e log now r steps)
      (shared_stops (shared_now a) (shared_now b) ms e log now r none stops);
  shared_settled = shared;
  members_settled = kept.members_settled;
}

-- A WORLD that was just opened
module _ (s : Shared) (now before : List MemberState) (log : List LogEntry) (k : ℕ) (shared : shared_now s ≡ fresh_shared)
    (members : now ≡ replicate k fresh_member) (entered : log ≡ opening k ∷ []) where
  pub kept_opened : 0 < k → k ≤ 16 → shared_then s ≡ fresh_shared → before ≡ replicate k fresh_member → IsKept s now before log
  kept_opened some few then settled = record {
    reached = subst (λ l. Reaches l (state_with (shared_now s) now)) (sym entered)
        (subst (λ w. Reaches (opening k ∷ []) w) (sym (same_state (shared_now s) fresh_shared now (replicate k fresh_member) shared members)) (opened k some few));
    shared_settled = then ∙ sym shared;
    members_settled = settled ∙ sym members;
  }
