-- What holds of each item of a list.
use Rattle.std.specs.Prelude.{All, Any, set}
use Rattle.std.proofs.Common.{◌≡◌, ◌++◌, ℕ, zero, suc, List, [], ◌∷◌, take, drop, slice_get, Some, sym, subst, arith}

module _ {X : Type 0} (P : X → Type 0) where
  pub all_none : All P []
  all_none k d below = absurd (omega (arith, below))

  pub all_first : (x : X) (xs : List X) → All P (x ∷ xs) → P x
  all_first x xs all = all 0 x (omega arith)

  pub all_rest : (x : X) (xs : List X) → All P (x ∷ xs) → All P xs
  all_rest x xs all k d below = all (suc k) d (omega (arith, below))

  pub all_front : (x : X) (xs : List X) → P x → All P xs → All P (x ∷ xs)
  all_front x xs first rest zero d below = first
  all_front x xs first rest (suc k) d below = rest k d (omega (arith, below))

  pub all_get : (xs : List X) (i : ℕ) (x : X) → All P xs → slice_get xs i ≡ Some x → P x
  all_get [] i x all at = cc
  all_get (y ∷ ys) zero x all at = let same : y ≡ x = cc in subst P same (all_first y ys all)
  all_get (y ∷ ys) (suc i) x all at = all_get ys i x (all_rest y ys all) at

  pub all_set : (xs : List X) (i : ℕ) (x : X) → All P xs → P x → All P (set xs i x)
  all_set [] i x all its = all
  all_set (y ∷ ys) zero x all its = all_front x ys its (all_rest y ys all)
  all_set (y ∷ ys) (suc i) x all its = all_front y (set ys i x) (all_first y ys all) (all_set ys i x (all_rest y ys all) its)

  pub all_append : (xs ys : List X) → All P xs → All P ys → All P (xs ++ ys)
  all_append [] ys first rest = rest
  all_append (x ∷ xs) ys first rest = all_front x (xs ++ ys) (all_first x xs first) (all_append xs ys (all_rest x xs first) rest)

  pub all_take : (n : ℕ) (xs : List X) → All P xs → All P (take n xs)
  all_take zero xs all = all_none
  all_take (suc n) [] all = all
  all_take (suc n) (x ∷ xs) all = all_front x (take n xs) (all_first x xs all) (all_take n xs (all_rest x xs all))

  pub all_drop : (n : ℕ) (xs : List X) → All P xs → All P (drop n xs)
  all_drop zero xs all = all
  all_drop (suc n) [] all = all
  all_drop (suc n) (x ∷ xs) all = all_drop n xs (all_rest x xs all)

  pub any_of : (xs : List X) (E : Type 0) → All (λ x. P x → E) xs → Any P xs → E
  any_of [] E all (k, y, below, at, its) = absurd (omega (arith, below))
  any_of (x ∷ xs) E all (k, y, below, at, its) = all k y below (subst P (sym at) its)

pub all_map : {X : Type 0} (P Q : X → Type 0) → ((x : X) → P x → Q x) → (xs : List X) → All P xs → All Q xs
all_map P Q each xs all k d below = each _ (all k d below)
