-- What a binary search over rising slots finds.
use Rattle.std.proofs.Common.{◌≡◌, ◌<◌, ◌≤◌, ℕ, zero, suc, List, [], ◌∷◌, length, get_or, sym, arith, Result, Ok, Err, MatchResult}
use Rattle.std.specs.List.{AllWithin, HoldsAt}
use Rattle.std.specs.List.Sorted.{IsBinarySearchResult, IsSearchInRange, IsNonDecreasingBy}
use Rattle.std.specs.Ordering.{nat_cmp, ordering_index}
use Rattle.std.specs.declared.cmp.Ordering.TheVariants.{Less, Equal, Greater}
use Rattle.std.proofs.lemmas.Cmp.{ranked}
use Rattle.std.proofs.lemmas.Bool.Decides.{nat_tests}
use Rattle.nuc_undo.specs.Stock.{IsBelow, IsRising, IsFound, IsGap}
use Rattle.nuc_undo.specs.declared.stock.Slot.{Slot}

pub below_found : (x y : ℕ) (es : List Slot) (i : ℕ) → IsBelow y es → IsFound x es i → y < x
below_found x y [] i b f = absurd f
below_found x y (e ∷ es) zero b f = omega (arith, b.0, f)
below_found x y (e ∷ es) (suc i) b f = omega (arith, b.0, f.0)

pub below_at : (y : ℕ) (es : List Slot) (j : ℕ) (d : Slot) → IsBelow y es → j < length es → y < (get_or es j d).number
below_at y [] j d b within = absurd (omega arith)
below_at y (e ∷ es) zero d b within = b.0
below_at y (e ∷ es) (suc j) d b within = below_at y es j d b.1 (omega arith)

index_rises : (a b x : ℕ) → a ≤ b → ordering_index (nat_cmp a x) ≤ ordering_index (nat_cmp b x)
index_rises a b x le = grind (arith, nat_tests)

rises : (x : ℕ) (es : List Slot) → IsRising es → IsNonDecreasingBy (λ e. ordering_index (nat_cmp e.number x)) es
rises x [] r i j d le within = absurd (omega arith)
rises x (e ∷ es) r zero zero d le within = omega arith
rises x (e ∷ es) r zero (suc j) d le within =
    let above = below_at e.number es j d r.0 (omega arith) in index_rises e.number (get_or es j d).number x (omega arith)
rises x (e ∷ es) r (suc i) zero d le within = absurd (omega arith)
rises x (e ∷ es) r (suc i) (suc j) d le within = rises x es r.1 i j d (omega arith) (omega arith)

found_at : (x : ℕ) (es : List Slot) (i : ℕ) → IsRising es → i < length es → HoldsAt (λ e. nat_cmp e.number x ≡ Equal) es i → IsFound x es i
found_at x [] i r within h = absurd (omega arith)
found_at x (e ∷ es) zero r within h = ranked e.number x Equal (sym (h e))
found_at x (e ∷ es) (suc i) r within h =
    let rest = found_at x es i r.1 (omega arith) h in (below_found x e.number es i r.0 rest, rest)

gap_at : (x : ℕ) (es : List Slot) (i : ℕ) → i ≤ length es → AllWithin (λ e. nat_cmp e.number x ≡ Less) es 0 i
    → AllWithin (λ e. nat_cmp e.number x ≡ Greater) es i (length es) → IsGap x es i
gap_at x [] i within less more = omega arith
gap_at x (e ∷ es) zero within less more = ranked e.number x Greater (sym (more 0 e (omega arith) (omega arith)))
gap_at x (e ∷ es) (suc i) within less more = (
  ranked e.number x Less (sym (less 0 e (omega arith) (omega arith))),
  gap_at x es i (omega arith) (λ k d a b. less (suc k) d (omega arith) (omega arith)) (λ k d a b. more (suc k) d (omega arith) (omega arith)),
)

pub searched : (es : List Slot) (x : ℕ) (r : Result ℕ ℕ) → IsRising es → IsSearchInRange r (length es)
    → IsBinarySearchResult (λ e. nat_cmp e.number x) es r → MatchResult r (IsFound x es) (IsGap x es)
searched es x (Ok i) rising within h = found_at x es i rising within h
searched es x (Err i) rising within h = let parts = h (rises x es rising) in gap_at x es i within parts.0 parts.1
