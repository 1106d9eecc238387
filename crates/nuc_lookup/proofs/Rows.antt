-- What a change at a position does to a list of rows.
use Rattle.std.proofs.Common.{◌≡◌, ◌≢◌, ◌<◌, ℕ, zero, suc, true, false, cond, List, [], ◌∷◌, get_or, set, Some, None, refl, sym, ap, subst, ◌∙◌, inl, inr, arith}
use Rattle.std.specs.List.{insert, remove}
use Rattle.std.specs.Cmp.{unsigned_tied}
use Rattle.std.specs.FinMap.{find}
use Rattle.std.specs.Ordering.{nat_cmp, eq_by_cmp}
use Rattle.std.proofs.lemmas.Bool.Decides.{eqb_tells}
use Rattle.nuc_lookup.specs.Rows.{pairs, IsBelow, IsRising, IsFound, IsGap}
use Rattle.nuc_lookup.specs.declared.row.Row.{Row}

abbrev pub row_of : ℕ → ℕ → Row
row_of x n = record { from = x; to = n }

yes : (x y : ℕ) → x ≡ y → eq_by_cmp nat_cmp x y ≡ true
yes x y e = unsigned_tied x y ∙ elim (eqb_tells x y) [ inl (t, s) ↦ t | inr (t, apart) ↦ absurd (apart e) ]

no : (x y : ℕ) → x ≢ y → eq_by_cmp nat_cmp x y ≡ false
no x y apart = unsigned_tied x y ∙ elim (eqb_tells x y) [ inl (t, s) ↦ absurd (apart s) | inr (t, a) ↦ t ]

-- the first row is x's, or isn't
pub find_here : (x : ℕ) (e : Row) (es : List Row) → x ≡ e.from → find nat_cmp x (pairs (e ∷ es)) ≡ Some e.to
find_here x e es s = ap (λ b. cond b (Some e.to) (find nat_cmp x (pairs es))) (yes x e.from s)

pub find_later : (x : ℕ) (e : Row) (es : List Row) → x ≢ e.from → find nat_cmp x (pairs (e ∷ es)) ≡ find nat_cmp x (pairs es)
find_later x e es apart = ap (λ b. cond b (Some e.to) (find nat_cmp x (pairs es))) (no x e.from apart)

below_trans : (x y : ℕ) (es : List Row) → x < y → IsBelow y es → IsBelow x es
below_trans x y [] lt b = tt
below_trans x y (e ∷ es) lt b = (omega (arith, b.0), below_trans x y es lt b.1)

find_below : (x : ℕ) (es : List Row) → IsBelow x es → find nat_cmp x (pairs es) ≡ None
find_below x [] b = refl
find_below x (e ∷ es) b = find_later x e es (λ s. absurd (omega (arith, b.0))) ∙ find_below x es b.1

pub find_found : (x : ℕ) (es : List Row) (i : ℕ) (d : Row) → IsFound x es i → find nat_cmp x (pairs es) ≡ Some (get_or es i d).to
find_found x [] i d f = absurd f
find_found x (e ∷ es) zero d f = find_here x e es (sym f)
find_found x (e ∷ es) (suc i) d f = find_later x e es (λ s. absurd (omega (arith, f.0))) ∙ find_found x es i d f.1

pub find_gap : (x : ℕ) (es : List Row) (i : ℕ) → IsRising es → IsGap x es i → find nat_cmp x (pairs es) ≡ None
find_gap x [] i r g = refl
find_gap x (e ∷ es) zero r g = find_later x e es (λ s. absurd (omega (arith, g))) ∙ find_below x es (below_trans x e.from es g r.0)
find_gap x (e ∷ es) (suc i) r g = find_later x e es (λ s. absurd (omega (arith, g.0))) ∙ find_gap x es i r.1 g.1

-- a row set at a position, put into a gap, or removed

below_set : (y x : ℕ) (n : ℕ) (es : List Row) (i : ℕ) → IsBelow y es → y < x → IsBelow y (set es i (row_of x n))
below_set y x n [] zero b lt = tt
below_set y x n [] (suc i) b lt = tt
below_set y x n (e ∷ es) zero b lt = (lt, b.1)
below_set y x n (e ∷ es) (suc i) b lt = (b.0, below_set y x n es i b.1 lt)

pub rising_set : (x : ℕ) (n : ℕ) (es : List Row) (i : ℕ) → IsRising es → IsFound x es i → IsRising (set es i (row_of x n))
rising_set x n [] i r f = absurd f
rising_set x n (e ∷ es) zero r f = (subst (λ y. IsBelow y es) f r.0, r.1)
rising_set x n (e ∷ es) (suc i) r f = (below_set e.from x n es i r.0 f.0, rising_set x n es i r.1 f.1)

below_insert : (y x : ℕ) (n : ℕ) (es : List Row) (i : ℕ) → IsBelow y es → y < x → IsBelow y (insert es i (row_of x n))
below_insert y x n [] zero b lt = (lt, tt)
below_insert y x n [] (suc i) b lt = (lt, tt)
below_insert y x n (e ∷ es) zero b lt = (lt, b)
below_insert y x n (e ∷ es) (suc i) b lt = (b.0, below_insert y x n es i b.1 lt)

pub rising_insert : (x : ℕ) (n : ℕ) (es : List Row) (i : ℕ) → IsRising es → IsGap x es i → IsRising (insert es i (row_of x n))
rising_insert x n [] zero r g = (tt, tt)
rising_insert x n [] (suc i) r g = (tt, tt)
rising_insert x n (e ∷ es) zero r g = ((g, below_trans x e.from es g r.0), r)
rising_insert x n (e ∷ es) (suc i) r g = (below_insert e.from x n es i r.0 g.0, rising_insert x n es i r.1 g.1)

below_remove : (y : ℕ) (es : List Row) (i : ℕ) → IsBelow y es → IsBelow y (remove es i)
below_remove y [] zero b = tt
below_remove y [] (suc i) b = tt
below_remove y (e ∷ es) zero b = b.1
below_remove y (e ∷ es) (suc i) b = (b.0, below_remove y es i b.1)

pub rising_remove : (es : List Row) (i : ℕ) → IsRising es → IsRising (remove es i)
rising_remove [] zero r = tt
rising_remove [] (suc i) r = tt
rising_remove (e ∷ es) zero r = r.1
rising_remove (e ∷ es) (suc i) r = (below_remove e.from es i r.0, rising_remove es i r.1)

pub find_set_same : (x : ℕ) (n : ℕ) (es : List Row) (i : ℕ) → IsFound x es i → find nat_cmp x (pairs (set es i (row_of x n))) ≡ Some n
find_set_same x n [] i f = absurd f
find_set_same x n (e ∷ es) zero f = find_here x (row_of x n) es refl
find_set_same x n (e ∷ es) (suc i) f = find_later x e (set es i (row_of x n)) (λ s. absurd (omega (arith, f.0))) ∙ find_set_same x n es i f.1

pub find_set_other : (x : ℕ) (n : ℕ) (es : List Row) (i : ℕ) (q : ℕ) → IsFound x es i → q ≢ x
    → find nat_cmp q (pairs (set es i (row_of x n))) ≡ find nat_cmp q (pairs es)
find_set_other x n [] i q f apart = absurd f
find_set_other x n (e ∷ es) zero q f apart = find_later q (row_of x n) es apart ∙ sym (find_later q e es (λ s. apart (s ∙ f)))
find_set_other x n (e ∷ es) (suc i) q f apart = ap (λ o. cond (eq_by_cmp nat_cmp q e.from) (Some e.to) o) (find_set_other x n es i q f.1 apart)

pub find_insert_same : (x : ℕ) (n : ℕ) (es : List Row) (i : ℕ) → IsGap x es i → find nat_cmp x (pairs (insert es i (row_of x n))) ≡ Some n
find_insert_same x n [] zero g = find_here x (row_of x n) [] refl
find_insert_same x n [] (suc i) g = find_here x (row_of x n) [] refl
find_insert_same x n (e ∷ es) zero g = find_here x (row_of x n) (e ∷ es) refl
find_insert_same x n (e ∷ es) (suc i) g = find_later x e (insert es i (row_of x n)) (λ s. absurd (omega (arith, g.0))) ∙ find_insert_same x n es i g.1

pub find_insert_other : (x : ℕ) (n : ℕ) (es : List Row) (i : ℕ) (q : ℕ) → q ≢ x
    → find nat_cmp q (pairs (insert es i (row_of x n))) ≡ find nat_cmp q (pairs es)
find_insert_other x n [] zero q apart = find_later q (row_of x n) [] apart
find_insert_other x n [] (suc i) q apart = find_later q (row_of x n) [] apart
find_insert_other x n (e ∷ es) zero q apart = find_later q (row_of x n) (e ∷ es) apart
find_insert_other x n (e ∷ es) (suc i) q apart = ap (λ o. cond (eq_by_cmp nat_cmp q e.from) (Some e.to) o) (find_insert_other x n es i q apart)

pub find_remove_same : (x : ℕ) (es : List Row) (i : ℕ) → IsRising es → IsFound x es i → find nat_cmp x (pairs (remove es i)) ≡ None
find_remove_same x [] i r f = absurd f
find_remove_same x (e ∷ es) zero r f = find_below x es (subst (λ y. IsBelow y es) f r.0)
find_remove_same x (e ∷ es) (suc i) r f = find_later x e (remove es i) (λ s. absurd (omega (arith, f.0))) ∙ find_remove_same x es i r.1 f.1

pub find_remove_other : (x : ℕ) (es : List Row) (i : ℕ) (q : ℕ) → IsFound x es i → q ≢ x
    → find nat_cmp q (pairs (remove es i)) ≡ find nat_cmp q (pairs es)
find_remove_other x [] i q f apart = absurd f
find_remove_other x (e ∷ es) zero q f apart = sym (find_later q e es (λ s. apart (s ∙ f)))
find_remove_other x (e ∷ es) (suc i) q f apart = ap (λ o. cond (eq_by_cmp nat_cmp q e.from) (Some e.to) o) (find_remove_other x es i q f.1 apart)
