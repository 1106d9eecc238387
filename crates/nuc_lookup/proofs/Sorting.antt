-- What sorting does to rows of different numbers.
use Rattle.std.proofs.Common.{◌≡◌, ◌≢◌, ◌<◌, ℕ, zero, suc, true, cond, List, [], ◌∷◌, length, map, get_or, AllPairs, Option, None, Some, refl, sym, ap, subst, ◌∙◌, inl, inr, arith}
use Rattle.std.proofs.lemmas.List.{get_or-map}
use Rattle.std.proofs.lemmas.List.Sorted.{Contains-permutation, IsPermutation-map, IsPermutation-sym}
use Rattle.std.proofs.lemmas.Map.Keys.{IsDistinct-IsPermutation}
use Rattle.std.proofs.lemmas.Map.Made.{AllPairs-from_IsDistinct, IsDistinct-from_AllPairs}
use Rattle.std.proofs.lemmas.Map.Views.{Contains-from_lookup, lookup-from_Contains}
use Rattle.std.proofs.lemmas.Bool.Decides.{Decides-eqb, eqb_tells}
use Rattle.std.proofs.lemmas.Cmp.{nat_cmp_total}
use Rattle.std.specs.Bool.{Decides}
use Rattle.std.specs.Cmp.{IsEquivalence, eq_by_cmp_equiv, unsigned_tied}
use Rattle.std.specs.FinMap.{find}
use Rattle.std.specs.List.{IsDistinct}
use Rattle.std.specs.List.Sorted.{IsNonDecreasingBy, IsPermutation}
use Rattle.std.specs.Map.{keys_of, lookup}
use Rattle.std.specs.Ordering.{nat_cmp, eq_by_cmp}
use Rattle.nuc_lookup.specs.Rows.{AreApart, IsBelow, IsRising, pairs}
use Rattle.nuc_lookup.specs.declared.row.Row.{Row}
use Rattle.nuc_lookup.proofs.Search.{below_at}

abbrev numbers : List Row → List ℕ
numbers rows = map (λ r. r.from) rows

size : (rows : List Row) → length (numbers rows) ≡ length rows
size [] = refl
size (r ∷ rows) = ap suc (size rows)

number_at : (rows : List Row) (i : ℕ) (d : Row) → i < length rows → get_or (numbers rows) i d.from ≡ (get_or rows i d).from
number_at rows i d lt = get_or-map (λ (r : Row). r.from) rows i d d.from lt

apart_numbers : (rows : List Row) → AreApart rows → AllPairs (λ x y. x ≢ y) (numbers rows)
apart_numbers rows apart i j x lt within same =
    let d : Row = record { from = x; to = x } in
    let long = size rows in
    let in_j : j < length rows = omega arith in
    apart i j d lt in_j (sym (number_at rows i d (omega arith)) ∙ same ∙ number_at rows j d in_j)

numbers_apart : (rows : List Row) → AllPairs (λ x y. x ≢ y) (numbers rows) → AreApart rows
numbers_apart rows apart i j d lt within same =
    let long = size rows in
    apart i j d.from lt (omega arith) (number_at rows i d (omega arith) ∙ same ∙ sym (number_at rows j d within))

-- IN ORDER, and no two of a number: they rise
all_below : (x : ℕ) (rows : List Row) → ((j : ℕ) (d : Row) → j < length rows → x < (get_or rows j d).from) → IsBelow x rows
all_below x [] h = tt
all_below x (r ∷ rows) h = (h 0 r (omega arith), all_below x rows (λ j d lt. h (suc j) d (omega arith)))

pub rising : (rows : List Row) → IsNonDecreasingBy (λ r. r.from) rows → AreApart rows → IsRising rows
rising [] up apart = tt
rising (r ∷ rows) up apart = (
  all_below r.from rows (λ j d lt.
      let le = up 0 (suc j) d (omega arith) (omega arith) in
      let other = apart 0 (suc j) d (omega arith) (omega arith) in
      omega (arith, le, other)),
  rising rows (λ i j d le lt. up (suc i) (suc j) d (omega arith) (omega arith)) (λ i j d lt within. apart (suc i) (suc j) d (omega arith) (omega arith)),
)

-- for a caller whose rows rise already
pub rising_apart : (rows : List Row) → IsRising rows → AreApart rows
rising_apart [] rises i j d lt within same = omega arith
rising_apart (r ∷ rows) rises i zero d lt within same = omega arith
rising_apart (r ∷ rows) rises zero (suc j) d lt within same = let above = below_at r.from rows j d rises.0 (omega arith) in omega (arith, above, same)
rising_apart (r ∷ rows) rises (suc i) (suc j) d lt within same = rising_apart rows rises.1 i j d (omega arith) (omega arith) same

-- ANOTHER ORDER says the same
same_test : (x y : ℕ) → Decides (eq_by_cmp nat_cmp x y) (x ≡ y)
same_test x y = subst (λ b. Decides b (x ≡ y)) (sym (unsigned_tied x y)) (Decides-eqb x y)

test_tells : (x y : ℕ) → eq_by_cmp nat_cmp x y ≡ true → x ≡ y
test_tells x y is = elim (eqb_tells x y) [ inl (t, same) ↦ same | inr (t, other) ↦ (let e = sym (unsigned_tied x y ∙ t) ∙ is in cc) ]

test_laws : IsEquivalence (eq_by_cmp nat_cmp)
test_laws = eq_by_cmp_equiv nat_cmp_total

keys_are : (rows : List Row) → keys_of (pairs rows) ≡ numbers rows
keys_are [] = refl
keys_are (r ∷ rows) = ap (λ xs. r.from ∷ xs) (keys_are rows)

find_is : (q : ℕ) (es : List (ℕ × ℕ)) → find nat_cmp q es ≡ lookup (eq_by_cmp nat_cmp q) es
find_is q [] = refl
find_is q (e ∷ es) = ap (cond (eq_by_cmp nat_cmp q e.0) (Some e.1)) (find_is q es)

distinct : (rows : List Row) → AreApart rows → IsDistinct (eq_by_cmp nat_cmp) (keys_of (pairs rows))
distinct rows apart = subst (IsDistinct (eq_by_cmp nat_cmp)) (sym (keys_are rows)) (IsDistinct-from_AllPairs same_test (numbers rows) (apart_numbers rows apart))

pub apart_again : (xs ys : List Row) → IsPermutation xs ys → AreApart xs → AreApart ys
apart_again xs ys moved apart =
    numbers_apart ys (AllPairs-from_IsDistinct same_test (numbers ys)
    (IsDistinct-IsPermutation (eq_by_cmp nat_cmp) test_laws.symm (numbers xs) (numbers ys) (IsPermutation-map (λ (r : Row). r.from) xs ys moved)
    (IsDistinct-from_AllPairs same_test (numbers xs) (apart_numbers xs apart))))

-- what one list says, the other says
says : (xs ys : List Row) → IsPermutation xs ys → AreApart ys → (q v : ℕ) → lookup (eq_by_cmp nat_cmp q) (pairs xs) ≡ Some v → lookup (eq_by_cmp nat_cmp q) (pairs ys) ≡ Some v
says xs ys moved apart q v is =
    lookup-from_Contains test_laws q v (pairs ys) (distinct ys apart)
    (Contains-permutation (pairs xs) (pairs ys) (q, v) (IsPermutation-map (λ (r : Row). (r.from, r.to)) xs ys moved)
    (Contains-from_lookup test_tells q v (pairs xs) is))

same_answer : (a b : Option ℕ) → ((v : ℕ) → a ≡ Some v → b ≡ Some v) → ((v : ℕ) → b ≡ Some v → a ≡ Some v) → a ≡ b
same_answer None None to back = refl
same_answer None (Some v) to back = back v refl
same_answer (Some v) b to back = sym (to v refl)

pub sorted_says : (xs ys : List Row) → IsPermutation xs ys → AreApart xs → (q : ℕ) → find nat_cmp q (pairs ys) ≡ find nat_cmp q (pairs xs)
sorted_says xs ys moved apart q =
    find_is q (pairs ys)
    ∙ same_answer _ _ (says ys xs (IsPermutation-sym xs ys moved) apart q) (says xs ys moved (apart_again xs ys moved apart) q)
    ∙ sym (find_is q (pairs xs))
