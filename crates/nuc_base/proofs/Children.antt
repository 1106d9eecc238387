-- The children of an identity by position: each stands at one, and they rise.
use Rattle.std.proofs.Common.{◌≡◌, ◌<◌, ◌≤◌, ◌⊎◌, ℕ, zero, suc, Bool, true, false, cond, List, [], ◌∷◌, length, get_or, Option, Some, None, refl, sym, ap, subst, ◌∙◌, inl, inr, arith}
use Rattle.std.specs.Prelude.{slice_get}
use Rattle.std.specs.List.{filter, AllPairs}
use Rattle.std.specs.FinMap.{get, keys, len, entries, len-entries}
use Rattle.std.proofs.lemmas.Bool.Decides.{eqb_tells}
use Rattle.std.proofs.lemmas.List.{length-map}
use Rattle.std.proofs.lemmas.List.Elements.{filter_passes}
use Rattle.std.proofs.lemmas.List.Kept.{AllPairs-filter}
use Rattle.std.proofs.lemmas.List.Sums.{length-filter, count_by-le-length}
use Rattle.std.proofs.lemmas.Option.{get_or_from_slice_get, slice_get-get_or, slice_get_within}
use Rattle.nuc_base.specs.Trees.{Nodes, has_parent, children}
use Rattle.nuc_base.specs.declared.node.Node.{Node}
use Rattle.nuc_base.proofs.Order.{nth_of, nth_rises}

either : (b : Bool) → (b ≡ true) ⊎ (b ≡ false)
either true = inl refl
either false = inr refl

-- what passes stands in the filtered list
kept_at : (p : ℕ → Bool) (xs : List ℕ) (i y : ℕ) → slice_get xs i ≡ Some y → p y ≡ true → (j : ℕ) × (slice_get (filter p xs) j ≡ Some y)
kept_at p [] i y h passes = absurd (let f : None ≡ Some y = h in cc)
kept_at p (x ∷ xs) zero y h passes =
    let f : Some x ≡ Some y = h in
    let s : x ≡ y = cc in
    (0, ap (λ b. slice_get (cond b (x ∷ filter p xs) (filter p xs)) 0) (ap p s ∙ passes) ∙ h)
kept_at p (x ∷ xs) (suc i) y h passes =
    let rest = kept_at p xs i y h passes in
    elim (either (p x)) [
      | inl kept ↦ (suc rest.0, ap (λ b. slice_get (cond b (x ∷ filter p xs) (filter p xs)) (suc rest.0)) kept ∙ rest.1)
      | inr passed ↦ (rest.0, ap (λ b. slice_get (cond b (x ∷ filter p xs) (filter p xs)) rest.0) passed ∙ rest.1)
    ]

is_parent : (x : ℕ) (n : Node) → n.place.parent.0 ≡ x → has_parent x (Some n) ≡ true
is_parent x n e = elim (eqb_tells n.place.parent.0 x) [ inl (t, s) ↦ t | inr (t, apart) ↦ absurd (apart e) ]

parent_is : (x : ℕ) (o : Option Node) → has_parent x o ≡ true → (n : Node) × (o ≡ Some n) × (n.place.parent.0 ≡ x)
parent_is x None h = absurd (let f : false ≡ true = h in cc)
parent_is x (Some n) h = elim (eqb_tells n.place.parent.0 x) [
  | inl (t, s) ↦ (n, refl, s)
  | inr (t, apart) ↦ absurd (let f : false ≡ true = sym t ∙ h in cc)
]

-- who is there with that parent stands at some position
pub child_of : (m : Nodes) (x y : ℕ) (n : Node) → get m y ≡ Some n → n.place.parent.0 ≡ x → (i : ℕ) × (i < length (children m x)) × (slice_get (children m x) i ≡ Some y)
child_of m x y n e parent =
    let row = nth_of m y (n, e) in
    let at = kept_at (λ z. has_parent x (get m z)) (keys m) row.0 y row.2 (ap (has_parent x) e ∙ is_parent x n parent) in
    (at.0, slice_get_within (children m x) at.0 y at.1, at.1)

-- at a position stands a child
pub child_there : (m : Nodes) (x i y : ℕ) → slice_get (children m x) i ≡ Some y → (n : Node) × (get m y ≡ Some n) × (n.place.parent.0 ≡ x)
child_there m x i y h =
    let passes = filter_passes (λ z. has_parent x (get m z)) (keys m) i y (slice_get_within (children m x) i y h) in
    parent_is x (get m y) (subst (λ z. has_parent x (get m z) ≡ true) (get_or_from_slice_get (children m x) i y y h) passes)

-- there are as many positions as children
pub child_within : (m : Nodes) (x i : ℕ) → i < length (children m x) → (y : ℕ) × (slice_get (children m x) i ≡ Some y)
child_within m x i lt = (get_or (children m x) i 0, slice_get-get_or (children m x) i 0 lt)

pub child_below : (m : Nodes) (x i y : ℕ) → slice_get (children m x) i ≡ Some y → i < length (children m x)
child_below m x i y h = slice_get_within (children m x) i y h

keys_rise : (m : Nodes) → AllPairs (λ x y. x < y) (keys m)
keys_rise m i j d lt within =
    nth_rises m i j (get_or (keys m) i d) (get_or (keys m) j d) lt (slice_get-get_or (keys m) i d (omega arith)) (slice_get-get_or (keys m) j d within)

pub child_rises : (m : Nodes) (x i j y z : ℕ) → i < j → slice_get (children m x) i ≡ Some y → slice_get (children m x) j ≡ Some z → y < z
child_rises m x i j y z lt g h =
    let rise = AllPairs-filter (λ a b. a < b) (λ a. has_parent x (get m a)) (keys m) (keys_rise m) i j 0 lt (slice_get_within (children m x) j z h) in
    subst (λ a. a < z) (get_or_from_slice_get (children m x) i y 0 g) (subst (λ b. get_or (children m x) i 0 < b) (get_or_from_slice_get (children m x) j z 0 h) rise)

keys_long : (m : Nodes) → length (keys m) ≤ len m
keys_long m = omega (arith, length-map (entries m) (λ e. e.0), len-entries m)

-- no more than there are nodes
pub children_bound : (m : Nodes) (x : ℕ) → length (children m x) ≤ len m
children_bound m x =
    let p : ℕ → Bool = λ y. has_parent x (get m y) in
    omega (arith, keys_long m, length-filter p (keys m), count_by-le-length p (keys m))
