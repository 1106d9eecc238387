-- The rows of a look-up.
use Rattle.std.specs.Prelude.{◌≡◌, ◌≢◌, ◌<◌, ℕ, zero, suc, AllPairs, List, [], ◌∷◌, map, Option, None, Some}
use Rattle.std.specs.FinMap.{FinMap, from_entries, from_sorted, remove}
use Rattle.std.specs.Ordering.{nat_cmp}
use Rattle.nuc_lookup.specs.declared.row.Row.{Row}

-- which number a number leads to
abbrev pub Numbers : Type 0
Numbers = FinMap nat_cmp ℕ

abbrev pub pairs : List Row → List (ℕ × ℕ)
pairs rows = map (λ r. (r.from, r.to)) rows

-- what rows in rising order say
abbrev pub numbers_of : List Row → Numbers
numbers_of rows = from_sorted (pairs rows)

-- what rows in any order say
abbrev pub numbers_in : List Row → Numbers
numbers_in rows = from_entries (pairs rows)

-- no number has two rows
abbrev pub AreApart : List Row → Type 0
AreApart rows = AllPairs (λ r s. r.from ≢ s.from) rows

-- the map without this number, where there is one
abbrev pub without : Numbers → Option ℕ → Numbers
without m None = m
without m (Some x) = remove m x

-- x is below the number of each row
abbrev pub IsBelow : ℕ → List Row → Type 0
IsBelow x [] = Unit {0}
IsBelow x (r ∷ rows) = (x < r.from) × IsBelow x rows

-- each row's number is below those after it
abbrev pub IsRising : List Row → Type 0
IsRising [] = Unit {0}
IsRising (r ∷ rows) = IsBelow r.from rows × IsRising rows

-- x has the row at this position, behind smaller numbers
abbrev pub IsFound : ℕ → List Row → ℕ → Type 0
IsFound x [] i = ⊥
IsFound x (r ∷ rows) zero = r.from ≡ x
IsFound x (r ∷ rows) (suc i) = (r.from < x) × IsFound x rows i

-- a row of x would go to this position, behind smaller numbers and before greater ones
abbrev pub IsGap : ℕ → List Row → ℕ → Type 0
IsGap x [] i = i ≡ 0
IsGap x (r ∷ rows) zero = x < r.from
IsGap x (r ∷ rows) (suc i) = (r.from < x) × IsGap x rows i
