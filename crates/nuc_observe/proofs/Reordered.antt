-- Elements of different numbers make one map in every order, and their numbers differ in every order.
use Rattle.std.proofs.Common.{◌≡◌, ◌≢◌, ℕ, suc, true, false, cond, List, [], ◌∷◌, map, AllPairs, IsPermutation, Option, None, Some, refl, sym, ap, subst, ◌∙◌, inl, inr, arith}
use Rattle.std.specs.Prelude.{◌||◌, is_some}
use Rattle.std.specs.Bool.{Decides}
use Rattle.std.specs.Cmp.{IsEquivalence, eq_by_cmp_equiv, unsigned_tied}
use Rattle.std.specs.FinMap.{find, from_entries, get-from_entries, nat_cmp-IsAntisymmetric, same_map}
use Rattle.std.specs.List.{IsDistinct, list_any}
use Rattle.std.specs.Map.{keys_of, lookup}
use Rattle.std.specs.Ordering.{eq_by_cmp, nat_cmp}
use Rattle.std.proofs.lemmas.Bool.Decides.{Decides-eqb, eqb_tells}
use Rattle.std.proofs.lemmas.Cmp.{nat_cmp_total}
use Rattle.std.proofs.lemmas.List.{get_or-map, length-map}
use Rattle.std.proofs.lemmas.List.Elements.{All-map}
use Rattle.std.proofs.lemmas.List.Kept.{AllPairs-cons}
use Rattle.std.proofs.lemmas.List.Sorted.{Contains-permutation, IsPermutation-map, IsPermutation-sym}
use Rattle.std.proofs.lemmas.Map.Keys.{IsDistinct-IsPermutation}
use Rattle.std.proofs.lemmas.Map.Made.{AllPairs-from_IsDistinct, IsDistinct-from_AllPairs}
use Rattle.std.proofs.lemmas.Map.Views.{Contains-from_lookup, lookup-from_Contains}

same_test : (x y : ℕ) → Decides (eq_by_cmp nat_cmp x y) (x ≡ y)
same_test x y = subst (λ b. Decides b (x ≡ y)) (sym (unsigned_tied x y)) (Decides-eqb x y)

test_tells : (x y : ℕ) → eq_by_cmp nat_cmp x y ≡ true → x ≡ y
test_tells x y is = elim (eqb_tells x y) [ inl (t, same) ↦ same | inr (t, other) ↦ (let e = sym (unsigned_tied x y ∙ t) ∙ is in cc) ]

test_laws : IsEquivalence (eq_by_cmp nat_cmp)
test_laws = eq_by_cmp_equiv nat_cmp_total

-- PAIRS
pub pairs_map : {A B : Type 0} (R : B → B → Type 0) (f : A → B) (xs : List A) → AllPairs (λ a b. R (f a) (f b)) xs → AllPairs R (map f xs)
pairs_map R f [] apart = λ i j d lt within. absurd (omega (arith, within))
pairs_map R f (x ∷ xs) apart =
    AllPairs-cons R (f x) (map f xs) (All-map (R (f x)) f xs (λ j d lt. apart 0 (suc j) d (omega arith) (omega arith)))
    (pairs_map R f xs (λ i j d lt within. apart (suc i) (suc j) d (omega arith) (omega arith)))

module _ {A : Type 0} (f : A → ℕ) where
  pub pairs_back : (xs : List A) → AllPairs (λ x y. x ≢ y) (map f xs) → AllPairs (λ a b. f a ≢ f b) xs
  pairs_back xs apart i j d lt within same =
      let long = length-map xs f in
      apart i j (f d) lt (omega arith) (get_or-map f xs i d (f d) (omega arith) ∙ same ∙ sym (get_or-map f xs j d (f d) within))

  pub apart_again : (xs ys : List A) → IsPermutation xs ys → AllPairs (λ a b. f a ≢ f b) xs → AllPairs (λ a b. f a ≢ f b) ys
  apart_again xs ys moved apart =
      pairs_back ys (AllPairs-from_IsDistinct same_test (map f ys)
      (IsDistinct-IsPermutation (eq_by_cmp nat_cmp) test_laws.symm (map f xs) (map f ys) (IsPermutation-map f xs ys moved)
      (IsDistinct-from_AllPairs same_test (map f xs) (pairs_map (λ x y. x ≢ y) f xs apart))))

-- ENTRIES
same_answer : {V : Type 0} (a b : Option V) → ((v : V) → a ≡ Some v → b ≡ Some v) → ((v : V) → b ≡ Some v → a ≡ Some v) → a ≡ b
same_answer None None to back = refl
same_answer None (Some v) to back = back v refl
same_answer (Some v) b to back = sym (to v refl)

find_is : {V : Type 0} (q : ℕ) (es : List (ℕ × V)) → find nat_cmp q es ≡ lookup (eq_by_cmp nat_cmp q) es
find_is q [] = refl
find_is q (e ∷ es) = ap (cond (eq_by_cmp nat_cmp q e.0) (Some e.1)) (find_is q es)

module _ {A V : Type 0} (f : A → ℕ) (g : A → V) where
  abbrev entries : List A → List (ℕ × V)
  entries xs = map (λ a. (f a, g a)) xs

  keys_are : (xs : List A) → keys_of (entries xs) ≡ map f xs
  keys_are [] = refl
  keys_are (x ∷ xs) = ap (λ ks. f x ∷ ks) (keys_are xs)

  distinct : (xs : List A) → AllPairs (λ a b. f a ≢ f b) xs → IsDistinct (eq_by_cmp nat_cmp) (keys_of (entries xs))
  distinct xs apart = subst (IsDistinct (eq_by_cmp nat_cmp)) (sym (keys_are xs)) (IsDistinct-from_AllPairs same_test (map f xs) (pairs_map (λ x y. x ≢ y) f xs apart))

  -- what one list says, the other says
  says : (xs ys : List A) → IsPermutation xs ys → AllPairs (λ a b. f a ≢ f b) ys → (q : ℕ) (v : V)
      → lookup (eq_by_cmp nat_cmp q) (entries xs) ≡ Some v → lookup (eq_by_cmp nat_cmp q) (entries ys) ≡ Some v
  says xs ys moved apart q v is =
      lookup-from_Contains test_laws q v (entries ys) (distinct ys apart)
      (Contains-permutation (entries xs) (entries ys) (q, v) (IsPermutation-map (λ a. (f a, g a)) xs ys moved)
      (Contains-from_lookup test_tells q v (entries xs) is))

  pub one_map : (xs ys : List A) → IsPermutation xs ys → AllPairs (λ a b. f a ≢ f b) xs → from_entries {R = nat_cmp} (entries ys) ≡ from_entries (entries xs)
  one_map xs ys moved apart = same_map nat_cmp_total nat_cmp-IsAntisymmetric _ _ (λ q.
      get-from_entries nat_cmp_total (entries ys) q
      ∙ find_is q (entries ys)
      ∙ same_answer _ _ (says ys xs (IsPermutation-sym xs ys moved) apart q) (says xs ys moved (apart_again f xs ys moved apart) q)
      ∙ sym (find_is q (entries xs))
      ∙ sym (get-from_entries nat_cmp_total (entries xs) q))

  -- whose number is among them has an entry
  pub has_entry : (xs : List A) (q : ℕ) → is_some (find nat_cmp q (entries xs)) ≡ list_any (eq_by_cmp nat_cmp q) (map f xs)
  has_entry [] q = refl
  has_entry (x ∷ xs) q = elim (eq_by_cmp nat_cmp q (f x)) as (λ t. is_some (cond t (Some (g x)) (find nat_cmp q (entries xs))) ≡ (t || list_any (eq_by_cmp nat_cmp q) (map f xs))) [
    | true ↦ refl
    | false ↦ has_entry xs q
  ]
