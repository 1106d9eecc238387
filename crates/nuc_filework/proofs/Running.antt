-- How calls that are made one after the other come off the front of the list.
use Rattle.std.proofs.Common.{◌≡◌, ◌+◌, ◌<◌, ◌≤◌, ℕ, suc, true, false, List, ◌∷◌, length, drop, get_or, sym, ap, subst, ◌∙◌}
use Rattle.std.proofs.lemmas.List.{drop_all, drop_more}
use Rattle.nuc_filework.specs.Runs.{Called, FolderView, Runs}
use Rattle.nuc_filework.specs.Runs.Runs.{over, stops, goes_on}
use Rattle.nuc_filework.specs.declared.call.Call.{Call}
use Rattle.nuc_folder.specs.Outcome.{is_success}
use Rattle.nuc_folder.specs.declared.outcome.Outcome.{Outcome}

module _ (bytes : List ℕ) (calls : List Call) (i : ℕ) (call : Call) (v w : FolderView) (last answer : Outcome) (more : i < length calls) (at : call ≡ get_or calls i call) (called : Called bytes call v answer w) where
  split : drop i calls ≡ call ∷ drop (i + 1) calls
  split = drop_more calls i call more ∙ ap (λ (c : Call). c ∷ drop (i + 1) calls) (sym at)

  pub stops_at : is_success answer ≡ false → Runs bytes last (drop i calls) v answer 0 w
  stops_at failed = subst (λ (cs : List Call). Runs bytes last cs v answer 0 w) (sym split) (stops last call _ v answer w called failed)

  pub goes_on_at : (final : Outcome) (made : ℕ) (u : FolderView) → is_success answer ≡ true → Runs bytes answer (drop (i + 1) calls) w final made u
      → Runs bytes last (drop i calls) v final (suc made) u
  goes_on_at final made u success rest =
      subst (λ (cs : List Call). Runs bytes last cs v final (suc made) u) (sym split) (goes_on last call _ v answer w final made u called success rest)

pub ends_at : (bytes : List ℕ) (calls : List Call) (i : ℕ) (v : FolderView) (last : Outcome) → length calls ≤ i → Runs bytes last (drop i calls) v last 0 v
ends_at bytes calls i v last end = subst (λ (cs : List Call). Runs bytes last cs v last 0 v) (sym (drop_all i calls end)) (over last v)

-- the same number, counted otherwise
pub counted : {bytes : List ℕ} {last : Outcome} {calls : List Call} {v : FolderView} {final : Outcome} {w : FolderView} (n m : ℕ) → n ≡ m → Runs bytes last calls v final n w
    → Runs bytes last calls v final m w
counted {bytes = bytes} {last = last} {calls = calls} {v = v} {final = final} {w = w} n m same runs = subst (λ (k : ℕ). Runs bytes last calls v final k w) same runs
