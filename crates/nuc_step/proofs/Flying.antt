-- What a change of one flight leaves of the flights, and what operations are once they have numbers.
use Rattle.std.specs.Prelude.{All}
use Rattle.std.proofs.Common.{◌≡◌, ◌≢◌, ◌<◌, ◌≤◌, ◌+◌, ◌==◌, ℕ, true, false, cond, List, [], ◌∷◌, length, map, Some, refl, subst, arith}
use Rattle.std.proofs.lemmas.Bool.{eqb-true, eqb-false}
use Rattle.std.proofs.lemmas.List.Elements.{All-cons, All-head, All-map, All-nil, All-tail, All-weaker}
use Rattle.std.proofs.lemmas.List.Kept.{AllPairs-cons}
use Rattle.nuc_class.specs.declared.op.Op.{Op}
use Rattle.nuc_flights.specs.Flights.{Flight, Stage, as_planned, flight_of, staged, without}
use Rattle.nuc_replica.specs.Remote.{RemoteState}
use Rattle.nuc_step.specs.Launch.{AreApart}
use Rattle.nuc_step.specs.Sound.{AreNumbered}
use Rattle.nuc_step.specs.Steps.{base_of, numbered}

-- A FLIGHT THAT IS THERE
pub flight_in : (P : Flight → Type 0) (n : ℕ) (fs : List Flight) (f : Flight) → flight_of n fs ≡ Some f → All P fs → P f
flight_in P n [] f is all = cc
flight_in P n (g ∷ fs) f is all = elim (g.op.number == n) as (λ b. cond b (Some g) (flight_of n fs) ≡ Some f → P f) [
  | true ↦ λ same. let it : g ≡ f = cc in subst P it (All-head P g fs all)
  | false ↦ λ rest. flight_in P n fs f rest (All-tail P g fs all)
] is

pub number_of : (n : ℕ) (fs : List Flight) (f : Flight) → flight_of n fs ≡ Some f → f.op.number ≡ n
number_of n [] f is = cc
number_of n (g ∷ fs) f is = elim (g.op.number == n) as (λ b. (g.op.number == n) ≡ b → cond b (Some g) (flight_of n fs) ≡ Some f → f.op.number ≡ n) [
  | true ↦ λ hits same. let it : g ≡ f = cc in subst (λ (h : Flight). h.op.number ≡ n) it (eqb-true g.op.number n hits)
  | false ↦ λ _ rest. number_of n fs f rest
] refl is

pub below_next : (fs : List Flight) (next : ℕ) → AreNumbered fs next → All (λ f. f.op.number < next) fs
below_next [] next are = All-nil (λ f. f.op.number < next)
below_next (f ∷ fs) next are = All-cons (λ f. f.op.number < next) f fs are.0 (below_next fs next are.2)

-- ONE COMES TO ANOTHER STAGE
abbrev at_stage : Stage → Flight → Flight
at_stage stage f = record f { stage = stage }

pub length_staged : (n : ℕ) (stage : Stage) (fs : List Flight) → length (staged n stage fs) ≡ length fs
length_staged n stage [] = refl
length_staged n stage (f ∷ fs) = elim (f.op.number == n) as (λ b. length (cond b (at_stage stage f ∷ fs) (f ∷ staged n stage fs)) ≡ length (f ∷ fs)) [
  | true ↦ omega arith
  | false ↦ let rest = length_staged n stage fs in omega (arith, rest)
]

pub all_staged : (P : Flight → Type 0) (n : ℕ) (stage : Stage) (fs : List Flight)
    → ((f : Flight) → flight_of n fs ≡ Some f → P f → P (record f { stage = stage })) → All P fs → All P (staged n stage fs)
all_staged P n stage [] keeps all = all
all_staged P n stage (f ∷ fs) keeps all =
    elim (f.op.number == n) as (λ b. ((g : Flight) → cond b (Some f) (flight_of n fs) ≡ Some g → P g → P (at_stage stage g)) → All P (cond b (at_stage stage f ∷ fs) (f ∷ staged n stage fs))) [
      | true ↦ λ keep. All-cons P (at_stage stage f) fs (keep f refl (All-head P f fs all)) (All-tail P f fs all)
      | false ↦ λ keep. All-cons P f (staged n stage fs) (All-head P f fs all) (all_staged P n stage fs keep (All-tail P f fs all))
    ] keeps

pub numbered_staged : (n : ℕ) (stage : Stage) (fs : List Flight) (next : ℕ) → AreNumbered fs next → AreNumbered (staged n stage fs) next
numbered_staged n stage [] next are = are
numbered_staged n stage (f ∷ fs) next are = elim (f.op.number == n) as (λ b. AreNumbered (cond b (at_stage stage f ∷ fs) (f ∷ staged n stage fs)) next) [
  | true ↦ are
  | false ↦ (are.0, all_staged (λ g. f.op.number < g.op.number) n stage fs (λ g _ above. above) are.1, numbered_staged n stage fs next are.2)
]

-- ONE IS IN FLIGHT NO MORE
pub length_without : (n : ℕ) (fs : List Flight) (f : Flight) → flight_of n fs ≡ Some f → length fs ≡ length (without n fs) + 1
length_without n [] f is = cc
length_without n (g ∷ fs) f is = elim (g.op.number == n) as (λ b. cond b (Some g) (flight_of n fs) ≡ Some f → length (g ∷ fs) ≡ length (cond b fs (g ∷ without n fs)) + 1) [
  | true ↦ λ _. omega arith
  | false ↦ λ there. let rest = length_without n fs f there in omega (arith, rest)
] is

pub all_without : (P : Flight → Type 0) (n : ℕ) (fs : List Flight) → All P fs → All P (without n fs)
all_without P n [] all = all
all_without P n (f ∷ fs) all = elim (f.op.number == n) as (λ b. All P (cond b fs (f ∷ without n fs))) [
  | true ↦ All-tail P f fs all
  | false ↦ All-cons P f (without n fs) (All-head P f fs all) (all_without P n fs (All-tail P f fs all))
]

pub numbered_without : (n : ℕ) (fs : List Flight) (next : ℕ) → AreNumbered fs next → AreNumbered (without n fs) next
numbered_without n [] next are = are
numbered_without n (f ∷ fs) next are = elim (f.op.number == n) as (λ b. AreNumbered (cond b fs (f ∷ without n fs)) next) [
  | true ↦ are.2
  | false ↦ (are.0, all_without (λ g. f.op.number < g.op.number) n fs are.1, numbered_without n fs next are.2)
]

-- the others have other numbers
pub others_without : (n : ℕ) (fs : List Flight) (next : ℕ) → AreNumbered fs next → All (λ f. f.op.number ≢ n) (without n fs)
others_without n [] next are = All-nil (λ f. f.op.number ≢ n)
others_without n (f ∷ fs) next are = elim (f.op.number == n) as (λ b. (f.op.number == n) ≡ b → All (λ g. g.op.number ≢ n) (cond b fs (f ∷ without n fs))) [
  | true ↦ λ hits. let same = eqb-true f.op.number n hits in
      All-weaker (λ g. f.op.number < g.op.number) (λ g. g.op.number ≢ n) (λ g above is. absurd (omega (arith, above, is, same))) fs are.1
  | false ↦ λ miss. All-cons (λ g. g.op.number ≢ n) f (without n fs) (eqb-false f.op.number n miss) (others_without n fs next are.2)
] refl

-- OPERATIONS GET NUMBERS
abbrev with_number : ℕ → RemoteState → Op → Op
with_number n remote op = record op { number = n; base = base_of op.effect remote op.id.0 }

pub length_numbered : (n : ℕ) (remote : RemoteState) (ops : List Op) → length (numbered n remote ops) ≡ length ops
length_numbered n remote [] = refl
length_numbered n remote (op ∷ ops) = let rest = length_numbered (n + 1) remote ops in omega (arith, rest)

pub all_numbered : (P : Op → Type 0) (n : ℕ) (remote : RemoteState) (ops : List Op)
    → ((op : Op) (number base : ℕ) → P op → P (record op { number = number; base = base })) → All P ops → All P (numbered n remote ops)
all_numbered P n remote [] keeps all = all
all_numbered P n remote (op ∷ ops) keeps all =
    All-cons P (with_number n remote op) (numbered (n + 1) remote ops) (keeps op n (base_of op.effect remote op.id.0) (All-head P op ops all))
    (all_numbered P (n + 1) remote ops keeps (All-tail P op ops all))

pub numbers_from : (n : ℕ) (remote : RemoteState) (ops : List Op) → All (λ op. n ≤ op.number) (numbered n remote ops)
numbers_from n remote [] = All-nil (λ op. n ≤ op.number)
numbers_from n remote (op ∷ ops) =
    All-cons (λ op. n ≤ op.number) (with_number n remote op) (numbered (n + 1) remote ops) (omega arith)
    (All-weaker (λ op. n + 1 ≤ op.number) (λ op. n ≤ op.number) (λ op above. omega (arith, above)) (numbered (n + 1) remote ops) (numbers_from (n + 1) remote ops))

pub numbers_apart : (n : ℕ) (remote : RemoteState) (ops : List Op) → AreApart (numbered n remote ops)
numbers_apart n remote [] = λ i j d before within. absurd (omega (arith, before, within))
numbers_apart n remote (op ∷ ops) =
    AllPairs-cons (λ o p. o.number ≢ p.number) (with_number n remote op) (numbered (n + 1) remote ops)
    (All-weaker (λ op. n + 1 ≤ op.number) (λ op. n ≢ op.number) (λ op above is. absurd (omega (arith, above, is))) (numbered (n + 1) remote ops) (numbers_from (n + 1) remote ops))
    (numbers_apart (n + 1) remote ops)

pub planned_numbers : (n : ℕ) (remote : RemoteState) (ops : List Op) (next : ℕ) → n + length ops ≤ next → AreNumbered (map as_planned (numbered n remote ops)) next
planned_numbers n remote [] next within = tt
planned_numbers n remote (op ∷ ops) next within = (
  omega (arith, within),
  All-map (λ g. n < g.op.number) as_planned (numbered (n + 1) remote ops)
      (All-weaker (λ op. n + 1 ≤ op.number) (λ op. n < op.number) (λ op above. omega (arith, above)) (numbered (n + 1) remote ops) (numbers_from (n + 1) remote ops)),
  planned_numbers (n + 1) remote ops next (omega (arith, within)),
)
