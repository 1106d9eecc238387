-- The flights where one of them comes to another stage.
use Rattle.std.specs.Prelude.{All, Contains}
use Rattle.std.proofs.Common.{◌≡◌, ◌≢◌, ◌<◌, ◌⊎◌, ◌==◌, ◌||◌, ℕ, suc, true, false, cond, List, [], ◌∷◌, length, Some, None, refl, ap, subst, inl, inr, arith}
use Rattle.std.proofs.lemmas.Bool.{eqb-true, eqb-false}
use Rattle.std.proofs.lemmas.List.Elements.{All-cons, All-contains, All-contains_itself, All-nil, All-weaker}
use Rattle.nuc_flights.specs.Flights.{Flight, Stage, flight_of, staged}
use Rattle.nuc_step.specs.Sound.{AreNumbered}
use Rattle.nuc_step.proofs.Flying.{flight_in}
use Rattle.nuc_converge.proofs.InFlight.{flies}

abbrev pub at_stage : Stage → Flight → Flight
at_stage st f = record f { stage = st }

-- ONE MORE IN FRONT
pub first_of : {X : Type 0} (x : X) (xs : List X) → Contains (x ∷ xs) x
first_of x xs = (0, omega arith, refl)

pub later_of : {X : Type 0} (y : X) (xs : List X) (x : X) → Contains xs x → Contains (y ∷ xs) x
later_of y xs x (k, below, at) = (suc k, omega (arith, below), at)

-- the flight under the number is one of them
pub flight_there : (n : ℕ) (fs : List Flight) (f : Flight) → flight_of n fs ≡ Some f → Contains fs f
flight_there n fs f there = flight_in (Contains fs) n fs f there (All-contains_itself fs)

-- AFTER IT each is another than that under the number, and was there before, or it is that one at its new stage
pub data ComesOf (n : ℕ) (st : Stage) (fs : List Flight) (f g : Flight) : Type 0 where
  other : Contains fs g → g.op.number ≢ n → ComesOf n st fs f g
  it : g ≡ at_stage st f → ComesOf n st fs f g

come_later : (n : ℕ) (st : Stage) (h : Flight) (fs : List Flight) (f g : Flight) → ComesOf n st fs f g → ComesOf n st (h ∷ fs) f g
come_later n st h fs f g (other in_fs apart) = other (later_of h fs g in_fs) apart
come_later n st h fs f g (it is) = it is

all_come : (n : ℕ) (st : Stage) (f : Flight) (fs : List Flight) (next : ℕ) → AreNumbered fs next → flight_of n fs ≡ Some f → All (ComesOf n st fs f) (staged n st fs)
all_come n st f [] next are there = cc
all_come n st f (g ∷ fs) next are there =
    elim (g.op.number == n) as (λ b. (g.op.number == n) ≡ b → cond b (Some g) (flight_of n fs) ≡ Some f
    → All (ComesOf n st (g ∷ fs) f) (cond b (at_stage st g ∷ fs) (g ∷ staged n st fs))) [
      | true ↦ λ hits same.
          let one : g ≡ f = cc in
          let number : g.op.number ≡ n = eqb-true g.op.number n hits in
          All-cons (ComesOf n st (g ∷ fs) f) (at_stage st g) fs (it (ap (at_stage st) one))
          (λ k d below.
          let above : g.op.number < _ = are.1 k d below in
          other (later_of g fs _ (All-contains_itself fs k d below)) (λ e. absurd (omega (arith, above, number, e))))
      | false ↦ λ miss rest.
          All-cons (ComesOf n st (g ∷ fs) f) g (staged n st fs) (other (first_of g fs) (eqb-false g.op.number n miss))
          (All-weaker (ComesOf n st fs f) (ComesOf n st (g ∷ fs) f) (come_later n st g fs f) (staged n st fs) (all_come n st f fs next are.2 rest))
    ] refl there

pub comes_of : (n : ℕ) (st : Stage) (f : Flight) (fs : List Flight) (next : ℕ) → AreNumbered fs next → flight_of n fs ≡ Some f → (g : Flight) → Contains (staged n st fs) g
    → ComesOf n st fs f g
comes_of n st f fs next are there g within = All-contains (ComesOf n st fs f) (staged n st fs) g (all_come n st f fs next are there) within

-- BEFORE IT each is the one under the number, or is there still
all_stay : (n : ℕ) (st : Stage) (fs : List Flight) → All (λ f. Contains (staged n st fs) f ⊎ (flight_of n fs ≡ Some f)) fs
all_stay n st [] = All-nil (λ f. Contains (staged n st []) f ⊎ (flight_of n [] ≡ Some f))
all_stay n st (g ∷ fs) =
    elim (g.op.number == n) as (λ b. All (λ f. Contains (cond b (at_stage st g ∷ fs) (g ∷ staged n st fs)) f ⊎ (cond b (Some g) (flight_of n fs) ≡ Some f)) (g ∷ fs)) [
      | true ↦
          All-cons (λ f. Contains (at_stage st g ∷ fs) f ⊎ (Some g ≡ Some f)) g fs (inr refl)
          (All-weaker (Contains fs) (λ f. Contains (at_stage st g ∷ fs) f ⊎ (Some g ≡ Some f)) (λ f within. inl (later_of (at_stage st g) fs f within)) fs (All-contains_itself fs))
      | false ↦
          All-cons (λ f. Contains (g ∷ staged n st fs) f ⊎ (flight_of n fs ≡ Some f)) g fs (inl (first_of g (staged n st fs)))
          (All-weaker (λ f. Contains (staged n st fs) f ⊎ (flight_of n fs ≡ Some f)) (λ f. Contains (g ∷ staged n st fs) f ⊎ (flight_of n fs ≡ Some f))
          (λ f stays. elim stays [ inl within ↦ inl (later_of g (staged n st fs) f within) | inr there ↦ inr there ]) fs (all_stay n st fs))
    ]

pub stays_or_is : (n : ℕ) (st : Stage) (fs : List Flight) (f : Flight) → Contains fs f → Contains (staged n st fs) f ⊎ (flight_of n fs ≡ Some f)
stays_or_is n st fs f within = All-contains (λ g. Contains (staged n st fs) g ⊎ (flight_of n fs ≡ Some g)) fs f (all_stay n st fs) within

-- that one is there at its new stage
pub staged_there : (n : ℕ) (st : Stage) (fs : List Flight) (f : Flight) → flight_of n fs ≡ Some f → Contains (staged n st fs) (at_stage st f)
staged_there n st [] f there = absurd (cc)
staged_there n st (g ∷ fs) f there =
    elim (g.op.number == n) as (λ b. cond b (Some g) (flight_of n fs) ≡ Some f → Contains (cond b (at_stage st g ∷ fs) (g ∷ staged n st fs)) (at_stage st f)) [
      | true ↦ λ same. let one : g ≡ f = cc in subst (λ (h : Flight). Contains (at_stage st g ∷ fs) (at_stage st h)) one (first_of (at_stage st g) fs)
      | false ↦ λ rest. later_of g (staged n st fs) (at_stage st f) (staged_there n st fs f rest)
    ] there

-- where it flies alone
pub staged_alone : (n : ℕ) (st : Stage) (g f : Flight) → flight_of n (g ∷ []) ≡ Some f → (g ≡ f) × (staged n st (g ∷ []) ≡ at_stage st g ∷ [])
staged_alone n st g f there = elim (g.op.number == n) as (λ b. cond b (Some g) None ≡ Some f → (g ≡ f) × (cond b (at_stage st g ∷ []) (g ∷ []) ≡ at_stage st g ∷ [])) [
  | true ↦ λ same. (cc, refl)
  | false ↦ λ none. absurd (cc)
] there

-- as many fly, of the same identities
pub length_staged : (n : ℕ) (st : Stage) (fs : List Flight) → length (staged n st fs) ≡ length fs
length_staged n st [] = refl
length_staged n st (f ∷ fs) = elim (f.op.number == n) as (λ b. length (cond b (at_stage st f ∷ fs) (f ∷ staged n st fs)) ≡ length (f ∷ fs)) [
  | true ↦ refl
  | false ↦ let rest = length_staged n st fs in omega (arith, rest)
]

pub flies_staged : (n : ℕ) (st : Stage) (fs : List Flight) (x : ℕ) → flies (staged n st fs) x ≡ flies fs x
flies_staged n st [] x = refl
flies_staged n st (f ∷ fs) x = elim (f.op.number == n) as (λ b. flies (cond b (at_stage st f ∷ fs) (f ∷ staged n st fs)) x ≡ ((f.op.id.0 == x) || flies fs x)) [
  | true ↦ refl
  | false ↦ ap (λ b. (f.op.id.0 == x) || b) (flies_staged n st fs x)
]
