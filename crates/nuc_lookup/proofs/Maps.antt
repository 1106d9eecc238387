-- What a number leads to after a change of the map.
use Rattle.std.proofs.Common.{◌≡◌, ◌≢◌, ◌⊎◌, ◌==◌, ℕ, ◌+◌, ◌-◌, ◌<◌, true, false, cond, Option, Some, None, refl, ap, ◌∙◌, inl, inr, arith}
use Rattle.std.specs.Prelude.{is_some}
use Rattle.std.proofs.lemmas.Bool.Decides.{eqb_tells}
use Rattle.std.specs.Cmp.{unsigned_tied}
use Rattle.std.specs.FinMap.{get, insert, remove, len, get-insert, get-remove, len-insert, len-remove, empty_of_len, get-empty, same_map, nat_cmp-IsAntisymmetric}
use Rattle.std.proofs.lemmas.Cmp.{nat_cmp_total}
use Rattle.std.specs.Ordering.{nat_cmp}
use Rattle.nuc_lookup.specs.Rows.{Numbers}

pub same_or_not : (x y : ℕ) → (x ≡ y) ⊎ (x ≢ y)
same_or_not x y = elim (eqb_tells x y) [ inl (t, e) ↦ inl e | inr (t, e) ↦ inr e ]

yes : (x : ℕ) → (x == x) ≡ true
yes x = elim (eqb_tells x x) [ inl (t, e) ↦ t | inr (t, e) ↦ absurd (e refl) ]

no : (x y : ℕ) → x ≢ y → (x == y) ≡ false
no x y apart = elim (eqb_tells x y) [ inl (t, e) ↦ absurd (apart e) | inr (t, e) ↦ t ]

pub get_put_same : (m : Numbers) (x n : ℕ) → get (insert m x n) x ≡ Some n
get_put_same m x n = get-insert nat_cmp_total m x n x ∙ ap (λ b. cond b (Some n) (get m x)) (unsigned_tied x x ∙ yes x)

pub get_put_other : (m : Numbers) (x n y : ℕ) → y ≢ x → get (insert m x n) y ≡ get m y
get_put_other m x n y apart = get-insert nat_cmp_total m x n y ∙ ap (λ b. cond b (Some n) (get m y)) (unsigned_tied y x ∙ no y x apart)

pub get_cut_same : (m : Numbers) (x : ℕ) → get (remove m x) x ≡ None
get_cut_same m x = get-remove nat_cmp_total m x x ∙ ap (λ b. cond b None (get m x)) (unsigned_tied x x ∙ yes x)

pub get_cut_other : (m : Numbers) (x y : ℕ) → y ≢ x → get (remove m x) y ≡ get m y
get_cut_other m x y apart = get-remove nat_cmp_total m x y ∙ ap (λ b. cond b None (get m y)) (unsigned_tied y x ∙ no y x apart)

-- two maps that lead to the same everywhere are one
pub same_numbers : (m k : Numbers) → ((x : ℕ) → get m x ≡ get k x) → m ≡ k
same_numbers m k same = same_map nat_cmp_total nat_cmp-IsAntisymmetric m k same

pub one_number : (o : Option ℕ) (n k : ℕ) → o ≡ Some n → o ≡ Some k → n ≡ k
one_number o n k e f = cc

pub not_both : (o : Option ℕ) (n : ℕ) → o ≡ None → o ≡ Some n → ⊥
not_both o n e f = cc

-- THE NUMBER OF ROWS
pub len_put_new : (m : Numbers) (x n : ℕ) → get m x ≡ None → len (insert m x n) ≡ len m + 1
len_put_new m x n none = len-insert nat_cmp_total m x n ∙ ap (λ o. cond (is_some o) (len m) (len m + 1)) none

pub len_put_over : (m : Numbers) (x n k : ℕ) → get m x ≡ Some k → len (insert m x n) ≡ len m
len_put_over m x n k some = len-insert nat_cmp_total m x n ∙ ap (λ o. cond (is_some o) (len m) (len m + 1)) some

some_row : (m : Numbers) (x n : ℕ) → get m x ≡ Some n → 0 < len m
some_row m x n some = elim (same_or_not (len m) 0) [
  | inl none ↦ absurd (not_both (get m x) n (ap (λ k. get k x) (empty_of_len m none) ∙ get-empty nat_cmp x) some)
  | inr more ↦ omega (arith, more)
]

pub len_cut : (m : Numbers) (x n : ℕ) → get m x ≡ Some n → len (remove m x) + 1 ≡ len m
len_cut m x n some =
    let fewer : len (remove m x) ≡ len m - 1 = len-remove nat_cmp_total m x ∙ ap (λ o. cond (is_some o) (len m - 1) (len m)) some in
    omega (arith, fewer, some_row m x n some)

pub len_cut_none : (m : Numbers) (x : ℕ) → get m x ≡ None → len (remove m x) ≡ len m
len_cut_none m x none = len-remove nat_cmp_total m x ∙ ap (λ o. cond (is_some o) (len m - 1) (len m)) none
