-- What a binary search over a list in an order finds.
use Rattle.std.proofs.Common.{◌≡◌, ◌<◌, ◌≤◌, ℕ, zero, suc, List, [], ◌∷◌, length, get_or, Some, None, refl, sym, ap, subst, ◌∙◌, arith}
use Rattle.std.specs.Prelude.{slice_get}
use Rattle.std.specs.Cmp.{IsTotalOrder}
use Rattle.std.specs.List.{AllWithin, AllByRecursion}
use Rattle.std.specs.List.Sorted.{IsNonDecreasingBy}
use Rattle.std.specs.Ordering.{ordering_index, ordering_reverse}
use Rattle.std.specs.declared.cmp.Ordering.{Ordering}
use Rattle.std.specs.declared.cmp.Ordering.TheVariants.{Less, Equal, Greater}
use Rattle.std.proofs.lemmas.Cmp.{alike_right}
use Rattle.std.proofs.lemmas.Option.{get_or_from_slice_get, slice_get_within}
use Rattle.nuc_index.specs.Rows.{Rises, IsAt, IsGap}

module _ {K : Type 0} {R : K → K → Ordering} (total : IsTotalOrder R) (a b k : K) (less : R a b ≡ Less) where
  steps : (r s : Ordering) → R a k ≡ r → R b k ≡ s → ordering_index r ≤ ordering_index s
  steps Less s p q = omega arith
  steps Equal Less p q = absurd (let turn : R b k ≡ Greater = total.antisymm b k ∙ ap ordering_reverse (sym (total.congr a k b p) ∙ less) in cc)
  steps Equal Equal p q = omega arith
  steps Equal Greater p q = omega arith
  steps Greater Less p q = absurd (let on : R a k ≡ Less = total.trans a b k less q in cc)
  steps Greater Equal p q = absurd (let on : R a b ≡ R a k = alike_right total b k a q in cc)
  steps Greater Greater p q = omega arith

  -- how the lesser of two compares with a third isn't above how the other does
  pub index_rises : ordering_index (R a k) ≤ ordering_index (R b k)
  index_rises = steps (R a k) (R b k) refl refl

-- what comes after stays so, the other way round
pub turned : {K : Type 0} {R : K → K → Ordering} → IsTotalOrder R → (x y : K) → R y x ≡ Greater → R x y ≡ Less
turned total x y more = total.antisymm x y ∙ ap ordering_reverse more

is_less : (o : Ordering) → ordering_index o ≤ ordering_index Less → o ≡ Less
is_less Less le = refl
is_less Equal le = absurd (omega arith)
is_less Greater le = absurd (omega arith)

is_greater : (o : Ordering) → ordering_index Greater ≤ ordering_index o → o ≡ Greater
is_greater Less le = absurd (omega arith)
is_greater Equal le = absurd (omega arith)
is_greater Greater le = refl

module _ {A : Type 0} where
  all_at : (P : A → Type 0) (xs : List A) (j : ℕ) (d : A) → AllByRecursion P xs → j < length xs → P (get_or xs j d)
  all_at P [] j d all lt = absurd (omega arith)
  all_at P (x ∷ xs) zero d all lt = all.0
  all_at P (x ∷ xs) (suc j) d all lt = all_at P xs j d all.1 (omega arith)

  pub all_from : (P : A → Type 0) (xs : List A) → ((k : ℕ) (d : A) → k < length xs → P (get_or xs k d)) → AllByRecursion P xs
  all_from P [] f = tt
  all_from P (x ∷ xs) f = (f 0 x (omega arith), all_from P xs (λ k d lt. f (suc k) d (omega arith)))

  pub index_along : (cmp : A → A → Ordering) (n : A → ℕ) → ((x y : A) → cmp x y ≡ Less → n x ≤ n y) → (xs : List A) → Rises cmp xs → IsNonDecreasingBy n xs
  index_along cmp n up [] r i j d le within = absurd (omega arith)
  index_along cmp n up (x ∷ xs) r zero zero d le within = omega arith
  index_along cmp n up (x ∷ xs) r zero (suc j) d le within = up x (get_or xs j d) (all_at (λ y. cmp x y ≡ Less) xs j d r.0 (omega arith))
  index_along cmp n up (x ∷ xs) r (suc i) zero d le within = absurd (omega arith)
  index_along cmp n up (x ∷ xs) r (suc i) (suc j) d le within = index_along cmp n up xs r.1 i j d (omega arith) (omega arith)

  pub gap_at : (to : A → Ordering) (xs : List A) (i : ℕ) → i ≤ length xs → AllWithin (λ y. to y ≡ Less) xs 0 i
      → AllWithin (λ y. to y ≡ Greater) xs i (length xs) → IsGap to xs i
  gap_at to [] i le less more = omega arith
  gap_at to (x ∷ xs) zero le less more = all_from (λ y. to y ≡ Greater) (x ∷ xs) (λ k d lt. more k d (omega arith) lt)
  gap_at to (x ∷ xs) (suc i) le less more = (
    less 0 x (omega arith) (omega arith),
    gap_at to xs i (omega arith) (λ k d a b. less (suc k) d (omega arith) (omega arith)) (λ k d a b. more (suc k) d (omega arith) (omega arith)),
  )

  -- what stands at a position is at it
  pub found_at : (to : A → Ordering) (xs : List A) (i : ℕ) (x : A) → slice_get xs i ≡ Some x → to x ≡ Equal → IsAt to xs i
  found_at to [] i x g e = absurd (let f : None ≡ Some x = g in cc)
  found_at to (y ∷ ys) zero x g e = let f : Some y ≡ Some x = g in let s : y ≡ x = cc in ap to s ∙ e
  found_at to (y ∷ ys) (suc i) x g e = found_at to ys i x g e

  read_at : (xs : List A) (i : ℕ) (x d : A) → slice_get xs i ≡ Some x → get_or xs i d ≡ x
  read_at xs i x d g = get_or_from_slice_get xs i x d g

  -- halving: what is looked for comes after what is less, and all up to there are less
  pub less_up_to : (to : A → Ordering) (xs : List A) (i : ℕ) (x : A) → IsNonDecreasingBy (λ y. ordering_index (to y)) xs → slice_get xs i ≡ Some x → to x ≡ Less
      → AllWithin (λ y. to y ≡ Less) xs 0 (suc i)
  less_up_to to xs i x rise g e k d a b =
      let up = rise k i d (omega arith) (slice_get_within xs i x g) in
      is_less (to (get_or xs k d)) (subst (λ o. ordering_index (to (get_or xs k d)) ≤ ordering_index o) (ap to (read_at xs i x d g) ∙ e) up)

  pub more_from : (to : A → Ordering) (xs : List A) (i : ℕ) (x : A) → IsNonDecreasingBy (λ y. ordering_index (to y)) xs → slice_get xs i ≡ Some x → to x ≡ Greater
      → AllWithin (λ y. to y ≡ Greater) xs i (length xs)
  more_from to xs i x rise g e k d a b =
      let up = rise i k d (omega arith) b in
      is_greater (to (get_or xs k d)) (subst (λ o. ordering_index o ≤ ordering_index (to (get_or xs k d))) (ap to (read_at xs i x d g) ∙ e) up)
