-- Above all identities of three trees there is a bound, and sums below such bounds are one number.
use Rattle.std.proofs.Common.{◌≡◌, ◌<◌, ◌≤◌, ◌+◌, ℕ, zero, suc, Option, None, Some, refl, sym, ap, ◌∙◌, inl, inr, arith}
use Rattle.std.specs.Prelude.{slice_get}
use Rattle.std.specs.FinMap.{get, keys, len}
use Rattle.std.proofs.lemmas.Bool.{cases_lt}
use Rattle.std.proofs.lemmas.Option.{same_Some}
use Rattle.nuc_base.specs.Trees.{Nodes}
use Rattle.nuc_base.specs.declared.node.Node.{Node}
use Rattle.nuc_base.proofs.Order.{nth_of, nth_rises, nth_within}
use Rattle.nuc_base.proofs.Maps.{same_or_not}
use Rattle.nuc_conflict.specs.FitTogether.{IsBelow}
use Rattle.nuc_measure.specs.Totals.{total, AreBelow, IsTotal}
use Rattle.nuc_measure.proofs.Totals.{total_gap}

bound_by : (m : Nodes) (k : ℕ) → len m ≡ k → (n : ℕ) × IsBelow m n
bound_by m zero e = (0, λ x n at. let place = nth_of m x (n, at) in let within = place.1 in absurd (omega (arith, within, e)))
bound_by m (suc k) e =
    let last = nth_within m k (omega (arith, e)) in (
      suc last.0,
      λ x n at.
          let place = nth_of m x (n, at) in
          let within = place.1 in
          elim (same_or_not place.0 k) [
            | inl s ↦ let is : x ≡ last.0 = same_Some x last.0 (sym place.2 ∙ ap (slice_get (keys m)) s ∙ last.1) in omega (arith, is)
            | inr apart ↦
                let less : x < last.0 = nth_rises m place.0 k x last.0 (omega (arith, within, e, apart)) place.2 last.1 in
                omega (arith, less)
          ],
    )

bound_of : (m : Nodes) → (n : ℕ) × IsBelow m n
bound_of m = bound_by m (len m) refl

pub below_more : (m : Nodes) (n k : ℕ) → n ≤ k → IsBelow m n → IsBelow m k
below_more m n k le below x node at = let less : x < n = below x node at in omega (arith, less, le)

pub are_below_more : (r l s : Nodes) (n k : ℕ) → n ≤ k → AreBelow r l s n → AreBelow r l s k
are_below_more r l s n k le below = record {
  remote = below_more r n k le below.remote;
  local = below_more l n k le below.local;
  synced = below_more s n k le below.synced;
}

pub some_bound : (r l s : Nodes) → (n : ℕ) × AreBelow r l s n
some_bound r l s =
    let (a, in_r) = bound_of r in
    let (b, in_l) = bound_of l in
    let (c, in_s) = bound_of s in (
      a + (b + c),
      record {
        remote = below_more r a (a + (b + c)) (omega arith) in_r;
        local = below_more l b (a + (b + c)) (omega arith) in_l;
        synced = below_more s c (a + (b + c)) (omega arith) in_s;
      },
    )

-- nobody stands at x
pub record Nowhere (r l s : Nodes) (x : ℕ) : Type 0 where
  pub remote : get r x ≡ None
  pub local : get l x ≡ None
  pub synced : get s x ≡ None

none_from : (m : Nodes) (n x : ℕ) (o : Option Node) → get m x ≡ o → IsBelow m n → n ≤ x → get m x ≡ None
none_from m n x None e below le = e
none_from m n x (Some node) e below le = let less : x < n = below x node e in absurd (omega (arith, less, le))

pub nowhere_from : (r l s : Nodes) (n x : ℕ) → AreBelow r l s n → n ≤ x → Nowhere r l s x
nowhere_from r l s n x below le = record {
  remote = none_from r n x (get r x) refl below.remote le;
  local = none_from l n x (get l x) refl below.local le;
  synced = none_from s n x (get s x) refl below.synced le;
}

-- of a function that is 0 where nobody stands
module _ (r l s : Nodes) (f : ℕ → ℕ) (zeros : (x : ℕ) → Nowhere r l s x → f x ≡ 0) where
  pub total_below : (n m : ℕ) → AreBelow r l s n → AreBelow r l s m → total m f ≡ total n f
  total_below n m in_n in_m = elim (cases_lt n m) [
    | inl less ↦ total_gap n m f (omega (arith, less)) (λ x low high. zeros x (nowhere_from r l s n x in_n low))
    | inr le ↦ sym (total_gap m n f le (λ x low high. zeros x (nowhere_from r l s m x in_m low)))
  ]

  -- the sum below one bound is the sum
  pub is_total : (n : ℕ) → AreBelow r l s n → IsTotal r l s f (total n f)
  is_total n in_n m in_m = total_below n m in_n in_m

  pub some_total : (k : ℕ) × IsTotal r l s f k
  some_total = let (n, in_n) = some_bound r l s in (total n f, is_total n in_n)

-- and there is no other
pub one_total : (r l s : Nodes) (f : ℕ → ℕ) (a b : ℕ) → IsTotal r l s f a → IsTotal r l s f b → a ≡ b
one_total r l s f a b is_a is_b = let (n, in_n) = some_bound r l s in sym (is_a n in_n) ∙ is_b n in_n
