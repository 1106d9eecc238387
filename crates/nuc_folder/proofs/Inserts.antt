-- What an insert keeps of a list, and where the first element stands that passes a test.
use Rattle.std.proofs.Common.{◌≡◌, ℕ, ◌+◌, ◌-◌, ◌<◌, ◌≤◌, Bool, true, false, List, length, get_or, None, not, refl, sym, subst, inl, inr, arith, position, unwrap_or, insert, All, AllPairs}
use Rattle.std.specs.List.{position_or_len}
use Rattle.std.proofs.lemmas.Bool.{cases_lt}
use Rattle.std.proofs.lemmas.Bool.Decides.{nat_tests}
use Rattle.std.proofs.lemmas.Grind.{common_steps}
use Rattle.std.proofs.lemmas.List.Edits.{get_or-insert_at, get_or-insert_below, get_or-insert_above}
use Rattle.std.proofs.lemmas.List.Sums.{prefix_len-le-length, prefix_len_passes, prefix_len_stops}

-- after the place of an insert everything stands one later
get_or-insert_after : {X : Type 0} (xs : List X) (n : ℕ) (y d : X) (j : ℕ) → n < j → n ≤ length xs → get_or (insert xs n y) j d ≡ get_or xs (j - 1) d
get_or-insert_after xs n y d j after within =
    let next : j - 1 + 1 ≡ j = omega arith in
    subst (λ (k : ℕ). get_or (insert xs n y) k d ≡ get_or xs (j - 1) d) next (get_or-insert_above xs n y d (j - 1) (omega arith) within)

length-insert : {X : Type 0} (xs : List X) (n : ℕ) (y : X) → n ≤ length xs → length (insert xs n y) ≡ length xs + 1
length-insert xs n y within = grind (arith, common_steps)

pub all_pairs_insert : {X : Type 0} (R : X → X → Type 0) (xs : List X) (n : ℕ) (y : X) → n ≤ length xs → AllPairs R xs
    → ((k : ℕ) (d : X) → k < n → R (get_or xs k d) y) → ((k : ℕ) (d : X) → n ≤ k → k < length xs → R y (get_or xs k d)) → AllPairs R (insert xs n y)
all_pairs_insert R xs n y within pairs before after i j d below end =
    let size = length-insert xs n y within in
    elim (cases_lt j n) [
      | inl low ↦
          let first = get_or-insert_below xs n y d i (omega arith) within in
          let second = get_or-insert_below xs n y d j low within in
          rw (first, second) (pairs i j d below (omega arith))
      | inr high ↦ elim (cases_lt n j) [
        | inr equal ↦
            let same : j ≡ n = omega arith in
            let first = get_or-insert_below xs n y d i (omega arith) within in
            let second : get_or (insert xs n y) j d ≡ y = rw same (get_or-insert_at xs n y d within) in
            rw (first, second) (before i d (omega arith))
        | inl above ↦
            let second = get_or-insert_after xs n y d j above within in
            elim (cases_lt i n) [
              | inl low ↦
                  let first = get_or-insert_below xs n y d i low within in
                  rw (first, second) (pairs i (j - 1) d (omega arith) (omega arith))
              | inr more ↦ elim (cases_lt n i) [
                | inr equal ↦
                    let same : i ≡ n = omega arith in
                    let first : get_or (insert xs n y) i d ≡ y = rw same (get_or-insert_at xs n y d within) in
                    rw (first, second) (after (j - 1) d (omega arith) (omega arith))
                | inl past ↦
                    let first = get_or-insert_after xs n y d i past within in
                    rw (first, second) (pairs (i - 1) (j - 1) d (omega arith) (omega arith))
              ]
            ]
      ]
    ]

pub all_insert : {X : Type 0} (P : X → Type 0) (xs : List X) (n : ℕ) (y : X) → n ≤ length xs → All P xs → P y → All P (insert xs n y)
all_insert P xs n y within all here k d end =
    let size = length-insert xs n y within in
    elim (cases_lt k n) [
      | inl low ↦ rw (get_or-insert_below xs n y d k low within) (all k d (omega arith))
      | inr high ↦ elim (cases_lt n k) [
        | inr equal ↦
            let same : k ≡ n = omega arith in
            let first : get_or (insert xs n y) k d ≡ y = rw same (get_or-insert_at xs n y d within) in
            rw first here
        | inl above ↦ rw (get_or-insert_after xs n y d k above within) (all (k - 1) d (omega arith))
      ]
    ]

-- the place of the first that passes, or the end, is where the run of those that don't ends
pub place-is : {X : Type 0} (p : X → Bool) (xs : List X) → unwrap_or (position p xs) (length xs) ≡ position_or_len p xs
place-is p xs = grind (arith, nat_tests, prefix_len-le-length (λ x. not (p x)) xs)

not_true : (b : Bool) → not b ≡ true → b ≡ false
not_true true e = sym e
not_true false e = refl

not_false : (b : Bool) → not b ≡ false → b ≡ true
not_false true e = refl
not_false false e = sym e

-- nothing before it passes
pub position_or_len-before : {X : Type 0} (p : X → Bool) (xs : List X) (k : ℕ) (d : X) → k < position_or_len p xs → p (get_or xs k d) ≡ false
position_or_len-before p xs k d before = not_true (p (get_or xs k d)) (prefix_len_passes (λ x. not (p x)) xs k d before)

pub position_or_len-at : {X : Type 0} (p : X → Bool) (xs : List X) (d : X) → position_or_len p xs < length xs → p (get_or xs (position_or_len p xs) d) ≡ true
position_or_len-at p xs d within = not_false (p (get_or xs (position_or_len p xs) d)) (prefix_len_stops (λ x. not (p x)) xs d within)

pub position-None : {X : Type 0} (p : X → Bool) (xs : List X) (k : ℕ) (d : X) → position p xs ≡ None → k < length xs → p (get_or xs k d) ≡ false
position-None p xs k d none below =
    let all : length xs ≤ position_or_len p xs = grind (arith, nat_tests) in
    position_or_len-before p xs k d (omega arith)
