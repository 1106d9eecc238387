-- The items of what is in a folder, sorted by their names.
use Rattle.std.proofs.Common.{◌≡◌, ◌≢◌, ◌<◌, ◌≤◌, ◌==◌, ℕ, Bool, true, false, List, length, map, get_or, Option, None, Some, All, AllPairs, Contains, IsPermutation, refl, sym, subst, ap, ◌∙◌, inl, inr, arith}
use Rattle.std.specs.Cmp.Lexicographic.{slice_cmp}
use Rattle.std.specs.FinMap.{get, slice_cmp-IsAntisymmetric, nat_cmp-IsAntisymmetric}
use Rattle.std.specs.List.{slice_get}
use Rattle.std.specs.List.Sorted.{IsSortedBy}
use Rattle.std.specs.Ordering.{nat_cmp, is_lt, ordering_reverse}
use Rattle.std.specs.declared.cmp.Ordering.{Ordering}
use Rattle.std.specs.declared.cmp.Ordering.TheVariants.{Less, Equal, Greater}
use Rattle.std.proofs.lemmas.Bool.Decides.{eqb_tells, Decides-eqb}
use Rattle.std.proofs.lemmas.Cmp.{nat_list_cmp_total}
use Rattle.std.proofs.lemmas.List.{length-map, get_or-map}
use Rattle.std.proofs.lemmas.List.Sorted.{All-permutation, Contains-permutation, IsPermutation-map, length_permutation, ranks_by, sorted_far}
use Rattle.std.proofs.lemmas.Map.Keys.{IsDistinct-IsPermutation}
use Rattle.std.proofs.lemmas.Map.Made.{AllPairs-from_IsDistinct, IsDistinct-from_AllPairs}
use Rattle.std.proofs.lemmas.Option.{get_or_from_slice_get, slice_get-get_or}
use Rattle.nuc_base.specs.SamePlace.{SamePlace, equal_names-same}
use Rattle.nuc_base.specs.Trees.{Nodes, WellFormed, children}
use Rattle.nuc_base.specs.declared.node.Node.{Node}
use Rattle.nuc_base.proofs.Children.{child_of, child_rises}
use Rattle.nuc_folder.specs.Listing.{AreFound, AreInside, IsBefore, IsIn, IsItem, IsItemAt, item_of, keys_of}
use Rattle.nuc_folder.specs.State.{FolderState}
use Rattle.nuc_folder.specs.declared.item.Item.{Item}

-- the name of one is below that of the other
abbrev pub name_below : Item → Item → Bool
name_below a b = is_lt (slice_cmp nat_cmp a.name b.name)

flips : (x y : ℕ) → (x == y) ≡ (y == x)
flips x y = elim (eqb_tells x y) [
  | inl (t, e) ↦ elim (eqb_tells y x) [ inl (s, f) ↦ t ∙ sym s | inr (s, apart) ↦ absurd (apart (sym e)) ]
  | inr (t, apart) ↦ elim (eqb_tells y x) [ inl (s, f) ↦ absurd (apart (sym f)) | inr (s, other) ↦ t ∙ sym s ]
]

-- what is neither above nor equal is below
less_of : (r s : Ordering) → r ≡ ordering_reverse s → is_lt s ≡ false → r ≢ Equal → r ≡ Less
less_of r Less e not_below differs = cc
less_of r Equal e not_below differs = absurd (differs e)
less_of r Greater e not_below differs = e

children_differ : (m : Nodes) (x : ℕ) → AllPairs (λ y z. y ≢ z) (children m x)
children_differ m x i j d less below same =
    let kids = children m x in
    let rises = child_rises m x i j _ _ less (slice_get-get_or kids i d (omega (arith, less, below))) (slice_get-get_or kids j d below) in
    omega (arith, rises, same)

keys_differ : (ks js : List ℕ) → IsPermutation ks js → AllPairs (λ y z. y ≢ z) ks → AllPairs (λ y z. y ≢ z) js
keys_differ ks js order apart = AllPairs-from_IsDistinct Decides-eqb js (IsDistinct-IsPermutation ◌==◌ flips ks js order (IsDistinct-from_AllPairs Decides-eqb ks apart))

pub item_parts : (x : ℕ) (o : Option Node) (bytes : Option (List ℕ)) (item : Item) → IsItemAt x o bytes item → (n : Node) × (o ≡ Some n) × (item ≡ item_of x n bytes)
item_parts x None bytes item none = absurd none
item_parts x (Some n) bytes item is = (n, refl, is)

-- two items of one name in one folder are of one key
one_key : (s : FolderState) (x : ℕ) (a b : Item) → WellFormed s.tree → IsIn s x a → IsIn s x b → a.name ≡ b.name → a.key.0 ≡ b.key.0
one_key s x a b form (own, parent) (its, too) name =
    let p = item_parts a.key.0 (get s.tree a.key.0) (get s.bytes a.key.0) a own in
    let q = item_parts b.key.0 (get s.tree b.key.0) (get s.bytes b.key.0) b its in
    let same : SamePlace p.0.place q.0.place = record {
      parent = sym (ap (λ (i : Item). i.parent.0) p.2) ∙ parent ∙ sym too ∙ ap (λ (i : Item). i.parent.0) q.2;
      name = equal_names-same _ _ (sym (ap (λ (i : Item). i.name) p.2) ∙ name ∙ ap (λ (i : Item). i.name) q.2);
    } in
    form.places a.key.0 b.key.0 p.0 q.0 p.1 q.1 same

module _ (s : FolderState) (x : ℕ) (form : WellFormed s.tree) (before after : List Item) (found : AreFound s x before) (order : IsPermutation before after) where
  kept : All (IsIn s x) after
  kept = All-permutation (IsIn s x) before after order found.each

  shuffled : IsPermutation (keys_of before) (keys_of after)
  shuffled = IsPermutation-map (λ (i : Item). i.key.0) before after order

  apart : AllPairs (λ y z. y ≢ z) (keys_of after)
  apart = keys_differ (keys_of before) (keys_of after) shuffled (subst (AllPairs (λ y z. y ≢ z)) (sym found.keys) (children_differ s.tree x))

  others : (i j : ℕ) (d : Item) → i < j → j < length after → (get_or after i d).key.0 ≢ (get_or after j d).key.0
  others i j d less below same =
      let long = length-map after (λ (i : Item). i.key.0) in
      apart i j d.key.0 less (omega (arith, long, below))
      (get_or-map (λ (i : Item). i.key.0) after i d d.key.0 (omega (arith, less, below)) ∙ same
      ∙ sym (get_or-map (λ (i : Item). i.key.0) after j d d.key.0 below))

  all_there : (y : ℕ) (n : Node) → get s.tree y ≡ Some n → n.place.parent.0 ≡ x → Contains (keys_of after) y
  all_there y n at parent =
      let row = child_of s.tree x y n at parent in
      let here : Contains (children s.tree x) y = (row.0, row.1, get_or_from_slice_get (children s.tree x) row.0 y y row.2) in
      Contains-permutation (keys_of before) (keys_of after) y shuffled (subst (λ l. Contains l y) (sym found.keys) here)

  pub sorted_inside : IsSortedBy name_below after → AreInside s x after
  sorted_inside sorted = record {
    each = kept;
    all = all_there;
    rising = λ i j d less below.
        let a = get_or after i d in
        let b = get_or after j d in
        let far : name_below b a ≡ false = sorted_far name_below (ranks_by nat_list_cmp_total (λ (i : Item). i.name)) after sorted i j d (omega (arith, less)) below in
        less_of (slice_cmp nat_cmp a.name b.name) (slice_cmp nat_cmp b.name a.name) (nat_list_cmp_total.antisymm a.name b.name) far (λ equal.
        others i j d less below (one_key s x a b form (kept i d (omega (arith, less, below))) (kept j d below)
        (slice_cmp-IsAntisymmetric nat_cmp-IsAntisymmetric a.name b.name equal)));
  }
