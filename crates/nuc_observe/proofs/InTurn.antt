-- What one more turn adds.
use Rattle.std.proofs.Common.{◌≡◌, ◌∙◌, ◌+◌, ◌<◌, ℕ, List, [], ◌∷◌, ◌++◌, length, take, get_or, Option, refl, sym, ap}
use Rattle.std.specs.Prelude.{unwrap_or}
use Rattle.std.proofs.lemmas.List.{append-nil, append_assoc, take_more}
use Rattle.nuc_observe.specs.Turns.{in_turn, next_after, next_after_all}

module _ {X : Type 0} (own : X → Option ℕ) where
  after_more : (next : ℕ) (xs : List X) (x : X) → next_after_all own next (xs ++ x ∷ []) ≡ next_after (own x) (next_after_all own next xs)
  after_more next [] x = refl
  after_more next (y ∷ ys) x = after_more (next_after (own y) next) ys x

  -- the next number after one turn more
  pub after_turn : (next : ℕ) (xs : List X) (i : ℕ) (x : X) → i < length xs → x ≡ get_or xs i x
      → next_after_all own next (take (i + 1) xs) ≡ next_after (own x) (next_after_all own next (take i xs))
  after_turn next xs i x within is =
      ap (next_after_all own next) (take_more xs i x within ∙ ap (λ y. take i xs ++ y ∷ []) (sym is)) ∙ after_more next (take i xs) x

  module _ {A : Type 0} (gives : ℕ → X → List A) where
    pub more : (next : ℕ) (xs : List X) (x : X)
        → in_turn own gives next (xs ++ x ∷ []) ≡ in_turn own gives next xs ++ gives (unwrap_or (own x) (next_after_all own next xs)) x
    more next [] x = append-nil _
    more next (y ∷ ys) x =
        ap (λ l. gives (unwrap_or (own y) next) y ++ l) (more (next_after (own y) next) ys x)
        ∙ sym (append_assoc (gives (unwrap_or (own y) next) y) (in_turn own gives (next_after (own y) next) ys) _)

    -- what is given after one turn more
    pub given : (next : ℕ) (xs : List X) (i : ℕ) (x : X) → i < length xs → x ≡ get_or xs i x
        → in_turn own gives next (take (i + 1) xs) ≡ in_turn own gives next (take i xs) ++ gives (unwrap_or (own x) (next_after_all own next (take i xs))) x
    given next xs i x within is =
        ap (in_turn own gives next) (take_more xs i x within ∙ ap (λ y. take i xs ++ y ∷ []) (sym is)) ∙ more next (take i xs) x
