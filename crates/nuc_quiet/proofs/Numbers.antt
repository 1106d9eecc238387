-- The numbers of what flies: the one at work, and those left.
use Rattle.std.proofs.Common.{◌≡◌, ◌≢◌, ◌≤◌, ◌+◌, ◌++◌, ◌==◌, ◌⊎◌, ℕ, Bool, true, false, cond, List, [], ◌∷◌, map, Some, refl, sym, ap, subst, ◌∙◌, inl, inr, eq-eqb, arith}
use Rattle.std.specs.Prelude.{reverse}
use Rattle.std.proofs.lemmas.Bool.{cases_Bool, eqb-true, eqb-false}
use Rattle.std.proofs.lemmas.List.{reverse-append}
use Rattle.std.proofs.lemmas.Option.{none-some}
use Rattle.nuc_class.specs.declared.op.Op.{Op}
use Rattle.nuc_converge.proofs.Starting.{IsPlannedAs}
use Rattle.nuc_flights.specs.Flights.{Flight, Stage, as_planned, flight_of, planned, staged, without}
use Rattle.nuc_replica.specs.Remote.{RemoteState}
use Rattle.nuc_step.specs.Sound.{AreNumbered}
use Rattle.nuc_step.specs.Steps.{numbered}
use Rattle.nuc_step.proofs.Flying.{flight_in, number_of, others_without}
use Rattle.nuc_sync.specs.Tasks.{in_order, numbers_of}

-- NUMBERS
abbrev pub IsIn : ℕ → List ℕ → Type 0
IsIn q [] = ⊥
IsIn q (n ∷ ns) = (q ≡ n) ⊎ IsIn q ns

-- none comes twice
abbrev pub Apart : List ℕ → Type 0
Apart [] = Unit {0}
Apart (n ∷ ns) = ¬ (IsIn n ns) × Apart ns

-- backwards
last_first : (x : ℕ) (xs : List ℕ) → reverse (x ∷ xs) ≡ reverse xs ++ x ∷ []
last_first x xs = reverse-append (x ∷ []) xs

in_more : (q x : ℕ) (xs : List ℕ) → IsIn q (xs ++ x ∷ []) → IsIn q (x ∷ xs)
in_more q x [] is = is
in_more q x (y ∷ xs) is = elim is [
  | inl it ↦ inr (inl it)
  | inr rest ↦ elim (in_more q x xs rest) [ inl it ↦ inl it | inr later ↦ inr (inr later) ]
]

more_in : (q x : ℕ) (xs : List ℕ) → IsIn q (x ∷ xs) → IsIn q (xs ++ x ∷ [])
more_in q x [] is = is
more_in q x (y ∷ xs) is = elim is [
  | inl it ↦ inr (more_in q x xs (inl it))
  | inr rest ↦ elim rest [ inl it ↦ inl it | inr later ↦ inr (more_in q x xs (inr later)) ]
]

apart_more : (x : ℕ) (xs : List ℕ) → Apart xs → ¬ (IsIn x xs) → Apart (xs ++ x ∷ [])
apart_more x [] apart new = (new, tt)
apart_more x (y ∷ xs) apart new = (
  λ is. elim (in_more y x xs is) [ inl it ↦ new (inl (sym it)) | inr later ↦ apart.0 later ],
  apart_more x xs apart.1 (λ is. new (inr is)),
)

in_reverse : (q : ℕ) (xs : List ℕ) → IsIn q (reverse xs) → IsIn q xs
in_reverse q [] is = is
in_reverse q (x ∷ xs) is = elim (in_more q x (reverse xs) (subst (IsIn q) (last_first x xs) is)) [
  | inl it ↦ inl it
  | inr rest ↦ inr (in_reverse q xs rest)
]

reverse_in : (q : ℕ) (xs : List ℕ) → IsIn q xs → IsIn q (reverse xs)
reverse_in q [] is = is
reverse_in q (x ∷ xs) is = subst (IsIn q) (sym (last_first x xs)) (more_in q x (reverse xs)
    (elim is [ inl it ↦ inl it | inr rest ↦ inr (reverse_in q xs rest) ]))

apart_reverse : (xs : List ℕ) → Apart xs → Apart (reverse xs)
apart_reverse [] apart = apart
apart_reverse (x ∷ xs) apart = subst Apart (sym (last_first x xs)) (apart_more x (reverse xs) (apart_reverse xs apart.1) (λ is. apart.0 (in_reverse x xs is)))

-- FLIGHTS BY THEIR NUMBER
other_number : (a n q : ℕ) → a ≡ n → q ≢ n → (a == q) ≡ false
other_number a n q is other = elim (cases_Bool (a == q)) [
  | inl hits ↦ absurd (other (sym (eqb-true a q hits) ∙ is))
  | inr misses ↦ misses
]

pub flight_of_staged : (q n : ℕ) (st : Stage) (fs : List Flight) → q ≢ n → flight_of q (staged n st fs) ≡ flight_of q fs
flight_of_staged q n st [] other = refl
flight_of_staged q n st (f ∷ fs) other =
    elim (f.op.number == n) as (λ b. (f.op.number == n) ≡ b
    → flight_of q (cond b (record f { stage = st } ∷ fs) (f ∷ staged n st fs)) ≡ cond (f.op.number == q) (Some f) (flight_of q fs)) [
      | true ↦ λ hits.
          let miss = other_number f.op.number n q (eqb-true f.op.number n hits) other in
          ap (λ b. cond b (Some (record f { stage = st })) (flight_of q fs)) miss ∙ sym (ap (λ b. cond b (Some f) (flight_of q fs)) miss)
      | false ↦ λ _. ap (λ o. cond (f.op.number == q) (Some f) o) (flight_of_staged q n st fs other)
    ] refl

flight_of_without : (q n : ℕ) (fs : List Flight) → q ≢ n → flight_of q (without n fs) ≡ flight_of q fs
flight_of_without q n [] other = refl
flight_of_without q n (f ∷ fs) other =
    elim (f.op.number == n) as (λ b. (f.op.number == n) ≡ b → flight_of q (cond b fs (f ∷ without n fs)) ≡ cond (f.op.number == q) (Some f) (flight_of q fs)) [
      | true ↦ λ hits. sym (ap (λ b. cond b (Some f) (flight_of q fs)) (other_number f.op.number n q (eqb-true f.op.number n hits) other))
      | false ↦ λ _. ap (λ o. cond (f.op.number == q) (Some f) o) (flight_of_without q n fs other)
    ] refl

none_of_it : (n : ℕ) (fs : List Flight) (next : ℕ) → AreNumbered fs next → (f : Flight) → flight_of n (without n fs) ≡ Some f → ⊥
none_of_it n fs next are f there =
    flight_in (λ g. g.op.number ≢ n) n (without n fs) f there (others_without n fs next are) (number_of n (without n fs) f there)

nobody_flies : (fs : List Flight) → ((q : ℕ) (f : Flight) → flight_of q fs ≡ Some f → ⊥) → fs ≡ []
nobody_flies [] none = refl
nobody_flies (f ∷ fs) none =
    absurd (none f.op.number f (ap (λ b. cond b (Some f) (flight_of f.op.number fs)) (eq-eqb f.op.number f.op.number refl)))

-- WHO WAITS: just these fly, and each is only planned
pub record Wait (ns : List ℕ) (fs : List Flight) : Type 0 where
  pub only : (q : ℕ) (f : Flight) → flight_of q fs ≡ Some f → IsIn q ns
  pub planned : (q : ℕ) → IsIn q ns → IsPlannedAs q fs
  pub apart : Apart ns

-- beside the one at work just these fly, and each is only planned
pub record WaitBehind (n : ℕ) (left : List ℕ) (fs : List Flight) : Type 0 where
  pub only : (q : ℕ) (f : Flight) → q ≢ n → flight_of q fs ≡ Some f → IsIn q left
  pub planned : (q : ℕ) → IsIn q left → IsPlannedAs q fs
  pub apart : Apart (n ∷ left)

abbrev pub SameBut : ℕ → List Flight → List Flight → Type 0
SameBut n fs gs = (q : ℕ) → q ≢ n → flight_of q gs ≡ flight_of q fs

rest_of : (q n : ℕ) (ns : List ℕ) → q ≢ n → IsIn q (n ∷ ns) → IsIn q ns
rest_of q n ns other is = elim is [ inl it ↦ absurd (other it) | inr rest ↦ rest ]

other_than : (q n : ℕ) (left : List ℕ) → Apart (n ∷ left) → IsIn q left → q ≢ n
other_than q n left apart is it = apart.0 (subst (λ x. IsIn x left) it is)

pub first_at_work : (n : ℕ) (left : List ℕ) (fs : List Flight) → Wait (n ∷ left) fs → WaitBehind n left fs
first_at_work n left fs wait = record {
  only = λ q f other there. rest_of q n left other (wait.only q f there);
  planned = λ q is. wait.planned q (inr is);
  apart = wait.apart;
}

moved : (q : ℕ) (fs gs : List Flight) → flight_of q gs ≡ flight_of q fs → IsPlannedAs q fs → IsPlannedAs q gs
moved q fs gs same is = record { flight = is.flight; there = same ∙ is.there; stage = is.stage }

pub wait_still : (n : ℕ) (left : List ℕ) (fs gs : List Flight) → SameBut n fs gs → WaitBehind n left fs → WaitBehind n left gs
wait_still n left fs gs same wait = record {
  only = λ q f other there. wait.only q f other (sym (same q other) ∙ there);
  planned = λ q is. moved q fs gs (same q (other_than q n left wait.apart is)) (wait.planned q is);
  apart = wait.apart;
}

-- the one at work is done
pub wait_then : (n : ℕ) (left : List ℕ) (fs : List Flight) (next : ℕ) → AreNumbered fs next → WaitBehind n left fs → Wait left (without n fs)
wait_then n left fs next are wait = record {
  only = λ q f there. only q f there (cases_Bool (q == n));
  planned = λ q is.
      let other = other_than q n left wait.apart is in
      moved q fs (without n fs) (flight_of_without q n fs other) (wait.planned q is);
  apart = wait.apart.1;
}
  where
    only : (q : ℕ) (f : Flight) → flight_of q (without n fs) ≡ Some f → ((q == n) ≡ true) ⊎ ((q == n) ≡ false) → IsIn q left
    only q f there (inl hits) = absurd (none_of_it n fs next are f (subst (λ x. flight_of x (without n fs) ≡ Some f) (eqb-true q n hits) there))
    only q f there (inr misses) =
        let other = eqb-false q n misses in
        wait.only q f other (sym (flight_of_without q n fs other) ∙ there)

pub none_waits : (fs : List Flight) → Wait [] fs → fs ≡ []
none_waits fs wait = nobody_flies fs wait.only

-- WHAT WAS JUST PLANNED
only_these : (ops : List Op) (q : ℕ) (f : Flight) → flight_of q (map as_planned ops) ≡ Some f → IsIn q (numbers_of ops)
only_these [] q f there = absurd (none-some f there)
only_these (op ∷ ops) q f there =
    elim (op.number == q) as (λ b. (op.number == q) ≡ b
    → cond b (Some (as_planned op)) (flight_of q (map as_planned ops)) ≡ Some f → IsIn q (numbers_of (op ∷ ops))) [
      | true ↦ λ hits _. inl (sym (eqb-true op.number q hits))
      | false ↦ λ _ rest. inr (only_these ops q f rest)
    ] refl there

each_planned : (ops : List Op) (q : ℕ) → IsIn q (numbers_of ops) → IsPlannedAs q (map as_planned ops)
each_planned [] q is = absurd is
each_planned (op ∷ ops) q is = elim (cases_Bool (op.number == q)) [
  | inl hits ↦ record {
    flight = as_planned op;
    there = ap (λ b. cond b (Some (as_planned op)) (flight_of q (map as_planned ops))) hits;
    stage = refl;
  }
  | inr misses ↦
      let rest = each_planned ops q (rest_of q op.number (numbers_of ops) (λ it. eqb-false op.number q misses (sym it)) is) in
      record { flight = rest.flight; there = ap (λ b. cond b (Some (as_planned op)) (flight_of q (map as_planned ops))) misses ∙ rest.there; stage = rest.stage }
]

pub all_wait : (backwards : Bool) (ops : List Op) → Apart (numbers_of ops) → Wait (in_order backwards ops) (map as_planned ops)
all_wait false ops apart = record { only = only_these ops; planned = each_planned ops; apart = apart }
all_wait true ops apart = record {
  only = λ q f there. reverse_in q (numbers_of ops) (only_these ops q f there);
  planned = λ q is. each_planned ops q (in_reverse q (numbers_of ops) is);
  apart = apart_reverse (numbers_of ops) apart;
}

numbers_above : (n : ℕ) (remote : RemoteState) (ops : List Op) (q : ℕ) → IsIn q (numbers_of (numbered n remote ops)) → n ≤ q
numbers_above n remote [] q is = absurd is
numbers_above n remote (op ∷ ops) q is = elim is [
  | inl it ↦ omega (arith, it)
  | inr rest ↦ let above = numbers_above (n + 1) remote ops q rest in omega (arith, above)
]

pub numbered_apart : (n : ℕ) (remote : RemoteState) (ops : List Op) → Apart (numbers_of (numbered n remote ops))
numbered_apart n remote [] = tt
numbered_apart n remote (op ∷ ops) =
    (λ is. let above = numbers_above (n + 1) remote ops n is in omega (arith, above), numbered_apart (n + 1) remote ops)
