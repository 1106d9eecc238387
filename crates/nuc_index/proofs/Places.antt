-- What the list of identities in order of place says of the tree that it is for.
use Rattle.std.proofs.Common.{◌≡◌, ◌≢◌, ◌≤◌, ℕ, List, get_or, Option, Some, None, refl, sym, ap, ap₂, subst, ◌∙◌, inl, inr}
use Rattle.std.specs.Prelude.{slice_get}
use Rattle.std.specs.Cmp.{IsTotalOrder}
use Rattle.std.specs.Cmp.Lexicographic.{options_total}
use Rattle.std.specs.FinMap.{get, insert, remove}
use Rattle.std.specs.List as list
use Rattle.std.specs.Option.{option_cmp}
use Rattle.std.specs.Ordering.{nat_cmp, ordering_index, ordering_then}
use Rattle.std.specs.declared.cmp.Ordering.{Ordering}
use Rattle.std.specs.declared.cmp.Ordering.TheVariants.{Less, Equal, Greater}
use Rattle.std.proofs.lemmas.Cmp.{nat_cmp_total, then_total, on_total, tied_itself, tied_back, alike_right, ranked}
use Rattle.std.proofs.lemmas.Option.{get_or_from_slice_get}
use Rattle.nuc_base.specs.Legal.{IsFree}
use Rattle.nuc_base.specs.SamePlace.{SamePlace, name_order, name_order-total, name_order-same, same_name-order, same_place-refl}
use Rattle.nuc_base.specs.Trees.{Nodes, IsVacant, StandsAt}
use Rattle.nuc_base.specs.declared.node.Node.{Node}
use Rattle.nuc_base.specs.declared.node.NodeId.{NodeId}
use Rattle.nuc_base.specs.declared.node.Place.{Place}
use Rattle.nuc_base.proofs.Maps.{same_or_not, get_put_same, get_put_other, get_cut_other, after_put, after_cut}
use Rattle.nuc_index.specs.Rows.{IsGap, IsIn, Holds}
use Rattle.nuc_index.specs.Places.{place_order, place_of, to_place, by_place, IsRisingByPlace, IsPlaceAt, IsPlaceGap, HasNode}
use Rattle.nuc_index.proofs.Rows.{at_in, found, out_of_gap, tied_one, rises_alike, rises_insert, rises_remove, holds_insert, holds_remove}
use Rattle.nuc_index.proofs.Search.{index_rises, turned}

pub place_total : IsTotalOrder place_order
place_total = then_total (on_total (λ (p : Place). p.parent.0) nat_cmp_total) (on_total (λ (p : Place). p.name) name_order-total)

pub key_total : IsTotalOrder (option_cmp place_order)
key_total = options_total place_total

-- how places compare with one of them rises with the places
pub to_rises : (m : Nodes) (p : Place) (x y : NodeId) → by_place m x y ≡ Less → ordering_index (to_place (get m x.0) p) ≤ ordering_index (to_place (get m y.0) p)
to_rises m p x y less = index_rises key_total (place_of (get m x.0)) (place_of (get m y.0)) (Some p) less

both_equal : (a b : Ordering) → ordering_then a b ≡ Equal → (a ≡ Equal) × (b ≡ Equal)
both_equal Less b e = absurd (let f : Less ≡ Equal = e in cc)
both_equal Equal b e = (refl, e)
both_equal Greater b e = absurd (let f : Greater ≡ Equal = e in cc)

same_of_order : (p q : Place) → place_order p q ≡ Equal → SamePlace p q
same_of_order p q e =
    let parts = both_equal (nat_cmp p.parent.0 q.parent.0) (name_order p.name q.name) e in
    record { parent = ranked p.parent.0 q.parent.0 Equal (sym parts.0); name = name_order-same p.name q.name parts.1 }

order_of_same : (p q : Place) → SamePlace p q → place_order p q ≡ Equal
order_of_same p q s =
    let first : nat_cmp p.parent.0 q.parent.0 ≡ Equal = subst (λ x. nat_cmp p.parent.0 x ≡ Equal) s.parent (tied_itself nat_cmp_total p.parent.0) in
    ap (λ o. ordering_then o (name_order p.name q.name)) first ∙ same_name-order p.name q.name s.name

-- the node of an identity has the place just where the two compare as equal
pub stands_of : (m : Nodes) (p : Place) (x : ℕ) (o : Option Node) → get m x ≡ o → to_place o p ≡ Equal → StandsAt m x p
stands_of m p x None there e = absurd (let f : Less ≡ Equal = e in cc)
stands_of m p x (Some n) there e = (n, there, same_of_order n.place p e)

equal_of : (m : Nodes) (p : Place) (x : ℕ) (n : Node) → get m x ≡ Some n → SamePlace n.place p → to_place (get m x) p ≡ Equal
equal_of m p x n there s = ap (λ o. to_place o p) there ∙ order_of_same n.place p s

abbrev node_id : ℕ → NodeId
node_id x = record { 0 = x }

same_id : (x y : NodeId) → x.0 ≡ y.0 → x ≡ y
same_id x y e = ap node_id e

module _ (m : Nodes) (xs : List NodeId) (rise : IsRisingByPlace m xs) (holds : Holds (HasNode m) xs) where
  pub standing : (p : Place) (i : ℕ) (x : NodeId) → IsPlaceAt m p xs i → x ≡ get_or xs i x → StandsAt m x.0 p
  standing p i x at shown =
      let y = found (λ y. to_place (get m y.0) p) xs i at in
      subst (λ z. StandsAt m z.0 p) (sym (shown ∙ get_or_from_slice_get xs i y.0 x y.1)) (stands_of m p y.0.0 (get m y.0.0) refl y.2)

  pub vacant : (p : Place) (i : ℕ) → IsPlaceGap m p xs i → IsVacant m p
  vacant p i gap x n there s = out_of_gap (λ y. to_place (get m y.0) p) xs i (node_id x) gap (holds.every (node_id x) (n, there)) (equal_of m p x n there s)

  module _ (x : NodeId) (n : Node) (there : get m x.0 ≡ Some n) (i : ℕ) where
    -- a node's own place is never vacant
    pub not_vacant : ¬ (IsPlaceGap m n.place xs i)
    not_vacant gap = vacant n.place i gap x.0 n there (same_place-refl n.place)

    pub own_at : IsPlaceAt m n.place xs i → slice_get xs i ≡ Some x
    own_at at =
        let y = found (λ y. to_place (get m y.0) n.place) xs i at in
        let tie : by_place m y.0 x ≡ Equal = ap (λ o. option_cmp place_order (place_of (get m y.0.0)) (place_of o)) there ∙ y.2 in
        let one = tied_one (by_place m) xs y.0 x rise (at_in xs i y.0 y.1) (holds.every x (n, there)) tie (tied_back key_total (place_of (get m y.0.0)) (place_of (get m x.0)) tie) in
        y.1 ∙ ap Some one

    -- the list without it is that of the tree without it
    module _ (at : slice_get xs i ≡ Some x) where
      pub without_holds : Holds (HasNode (remove m x.0)) (list.remove xs i)
      without_holds = holds_remove (by_place m) (HasNode m) _ xs i x (tied_itself key_total (place_of (get m x.0))) rise at holds
          (λ y has apart. (has.0, get_cut_other m x.0 y.0 (λ s. apart (sym (same_id y x s))) ∙ has.1))
          (λ y has. (has.0, (after_cut m x.0 y.0 has.0 has.1).1))
          (λ has. (after_cut m x.0 x.0 has.0 has.1).0 refl)

      kept : (y : NodeId) → IsIn y (list.remove xs i) → get m y.0 ≡ get (remove m x.0) y.0
      kept y h = let has = without_holds.each y h in (after_cut m x.0 y.0 has.0 has.1).1 ∙ sym has.1

      pub without_rises : IsRisingByPlace (remove m x.0) (list.remove xs i)
      without_rises = rises_alike (by_place m) (by_place (remove m x.0)) (list.remove xs i)
          (λ y z h k. ap₂ (λ a b. option_cmp place_order (place_of a) (place_of b)) (kept y h) (kept z k))
          (rises_remove (by_place m) xs i rise)

-- the list of a tree without one of its nodes
module _ (m : Nodes) (x : NodeId) (n : Node) (there : get m x.0 ≡ Some n) (xs : List NodeId)
    (rise : IsRisingByPlace (remove m x.0) xs) (holds : Holds (HasNode (remove m x.0)) xs) where
  old : (y : NodeId) → IsIn y xs → (k : Node) × (y.0 ≢ x.0) × (get m y.0 ≡ Some k)
  old y h = let has = holds.each y h in let is = after_cut m x.0 y.0 has.0 has.1 in (has.0, is.0, is.1)

  same_node : (y : NodeId) → IsIn y xs → get (remove m x.0) y.0 ≡ get m y.0
  same_node y h = get_cut_other m x.0 y.0 (old y h).1

  -- it rises by the places of the whole tree too
  pub rises_in_whole : IsRisingByPlace m xs
  rises_in_whole = rises_alike (by_place (remove m x.0)) (by_place m) xs
      (λ y z h k. ap₂ (λ a b. option_cmp place_order (place_of a) (place_of b)) (same_node y h) (same_node z k)) rise

  module _ (i : ℕ) where
    pub not_taken : IsFree m x.0 n.place → ¬ (IsPlaceAt m n.place xs i)
    not_taken free at =
        let y = found (λ y. to_place (get m y.0) n.place) xs i at in
        let stands = stands_of m n.place y.0.0 (get m y.0.0) refl y.2 in
        (old y.0 (at_in xs i y.0 y.1)).1 (free y.0.0 stands.0 stands.1 stands.2)

    pub with_holds : Holds (HasNode m) (list.insert xs i x)
    with_holds = holds_insert (HasNode (remove m x.0)) (HasNode m) xs i x holds
        (λ y has. elim (same_or_not y.0 x.0) [ inl s ↦ inl (sym (same_id y x s)) | inr apart ↦ inr (has.0, get_cut_other m x.0 y.0 apart ∙ has.1) ])
        (n, there)
        (λ y has. (has.0, (after_cut m x.0 y.0 has.0 has.1).1))

    pub with_rises : IsPlaceGap m n.place xs i → IsRisingByPlace m (list.insert xs i x)
    with_rises gap = rises_insert (by_place m) xs i x (λ y more. turned key_total (place_of (get m x.0)) (place_of (get m y.0)) more) rises_in_whole
        (subst (λ o. IsGap (λ y. option_cmp place_order (place_of (get m y.0)) (place_of o)) xs i) (sym there) gap)

-- the list stays as it is where a node gets the place that it has
module _ (m : Nodes) (x : ℕ) (k n : Node) (there : get m x ≡ Some k) (same : SamePlace k.place n.place) (xs : List NodeId) where
  tie : (y : ℕ) → option_cmp place_order (place_of (get m y)) (place_of (get (insert m x n) y)) ≡ Equal
  tie y = elim (same_or_not y x) [
    | inl e ↦ subst (λ z. option_cmp place_order (place_of (get m z)) (place_of (get (insert m x n) z)) ≡ Equal) (sym e)
        (ap₂ (λ a b. option_cmp place_order (place_of a) (place_of b)) there (get_put_same m x n) ∙ order_of_same k.place n.place same)
    | inr apart ↦ ap (λ o. option_cmp place_order (place_of (get m y)) (place_of o)) (get_put_other m x n y apart) ∙ tied_itself key_total (place_of (get m y))
  ]

  pub rises_still : IsRisingByPlace m xs → IsRisingByPlace (insert m x n) xs
  rises_still rise = rises_alike (by_place m) (by_place (insert m x n)) xs
      (λ y z h l. key_total.congr (place_of (get m y.0)) (place_of (get (insert m x n) y.0)) (place_of (get m z.0)) (tie y.0)
      ∙ alike_right key_total (place_of (get m z.0)) (place_of (get (insert m x n) z.0)) (place_of (get (insert m x n) y.0)) (tie z.0))
      rise

  pub holds_still : Holds (HasNode m) xs → Holds (HasNode (insert m x n)) xs
  holds_still holds = record {
    each = λ y h. elim (same_or_not y.0 x) [
      | inl e ↦ (n, ap (get (insert m x n)) e ∙ get_put_same m x n)
      | inr apart ↦ let has = holds.each y h in (has.0, get_put_other m x n y.0 apart ∙ has.1)
    ];
    every = λ y has. elim (after_put m x n y.0 has.0 has.1) [
      | inl (e, f) ↦ holds.every y (k, ap (get m) e ∙ there)
      | inr (apart, g) ↦ holds.every y (has.0, g)
    ];
  }
