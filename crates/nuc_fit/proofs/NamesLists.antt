-- What holds of each item of a list, and of each operation in flight.
use Rattle.std.specs.Prelude.{All}
use Rattle.std.proofs.Common.{◌≡◌, ◌++◌, ◌==◌, ℕ, zero, suc, true, false, cond, List, [], ◌∷◌, take, drop, Some, subst, arith}
use Rattle.nuc_flights.specs.Flights.{Flight, Stage, flight_of, staged, without}

module _ {X : Type 0} (P : X → Type 0) where
  pub all_none : All P []
  all_none k d below = absurd (omega (arith, below))

  pub all_first : (x : X) (xs : List X) → All P (x ∷ xs) → P x
  all_first x xs all = all 0 x (omega arith)

  pub all_rest : (x : X) (xs : List X) → All P (x ∷ xs) → All P xs
  all_rest x xs all k d below = all (suc k) d (omega (arith, below))

  pub all_front : (x : X) (xs : List X) → P x → All P xs → All P (x ∷ xs)
  all_front x xs first rest zero d below = first
  all_front x xs first rest (suc k) d below = rest k d (omega (arith, below))

  pub all_append : (xs ys : List X) → All P xs → All P ys → All P (xs ++ ys)
  all_append [] ys first rest = rest
  all_append (x ∷ xs) ys first rest = all_front x (xs ++ ys) (all_first x xs first) (all_append xs ys (all_rest x xs first) rest)

  pub all_take : (n : ℕ) (xs : List X) → All P xs → All P (take n xs)
  all_take zero xs all = all_none
  all_take (suc n) [] all = all
  all_take (suc n) (x ∷ xs) all = all_front x (take n xs) (all_first x xs all) (all_take n xs (all_rest x xs all))

  pub all_drop : (n : ℕ) (xs : List X) → All P xs → All P (drop n xs)
  all_drop zero xs all = all
  all_drop (suc n) [] all = all
  all_drop (suc n) (x ∷ xs) all = all_drop n xs (all_rest x xs all)

-- OPERATIONS IN FLIGHT
module _ (P : Flight → Type 0) where
  pub all_staged : (n : ℕ) (st : Stage) → ((f : Flight) → P f → P (record f { stage = st })) → (fs : List Flight) → All P fs → All P (staged n st fs)
  all_staged n st each [] all = all
  all_staged n st each (f ∷ fs) all = elim (f.op.number == n) as (λ b. All P (cond b (record f { stage = st } ∷ fs) (f ∷ staged n st fs))) [
    | true ↦ all_front P (record f { stage = st }) fs (each f (all_first P f fs all)) (all_rest P f fs all)
    | false ↦ all_front P f (staged n st fs) (all_first P f fs all) (all_staged n st each fs (all_rest P f fs all))
  ]

  pub all_without : (n : ℕ) (fs : List Flight) → All P fs → All P (without n fs)
  all_without n [] all = all
  all_without n (f ∷ fs) all = elim (f.op.number == n) as (λ b. All P (cond b fs (f ∷ without n fs))) [
    | true ↦ all_rest P f fs all
    | false ↦ all_front P f (without n fs) (all_first P f fs all) (all_without n fs (all_rest P f fs all))
  ]

  pub flight_all : (n : ℕ) (fs : List Flight) (f : Flight) → flight_of n fs ≡ Some f → All P fs → P f
  flight_all n [] f there all = cc
  flight_all n (g ∷ fs) f there all = elim (g.op.number == n) as (λ b. cond b (Some g) (flight_of n fs) ≡ Some f → P f) [
    | true ↦ λ same. let it : g ≡ f = cc in subst P it (all_first P g fs all)
    | false ↦ λ later. flight_all n fs f later (all_rest P g fs all)
  ] there

-- PARTS of a list
module _ {X : Type 0} (P : X → Type 0) where
  pub all_left : (xs ys : List X) → All P (xs ++ ys) → All P xs
  all_left [] ys all = all_none P
  all_left (x ∷ xs) ys all = all_front P x xs (all_first P x (xs ++ ys) all) (all_left xs ys (all_rest P x (xs ++ ys) all))

  pub all_right : (xs ys : List X) → All P (xs ++ ys) → All P ys
  all_right [] ys all = all
  all_right (x ∷ xs) ys all = all_right xs ys (all_rest P x (xs ++ ys) all)
