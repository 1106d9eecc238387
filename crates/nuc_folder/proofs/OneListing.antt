-- A folder has one listing.
use Rattle.std.proofs.Common.{◌≡◌, ◌≢◌, ◌<◌, ◌≤◌, ◌+◌, ◌⊎◌, ℕ, zero, suc, List, [], ◌∷◌, ◌++◌, length, map, get_or, Some, All, AllPairs, Contains, refl, sym, subst, ap, ◌∙◌, inl, inr, arith}
use Rattle.std.specs.Cmp.Lexicographic.{slice_cmp}
use Rattle.std.specs.FinMap.{get}
use Rattle.std.specs.Ordering.{nat_cmp, ordering_reverse}
use Rattle.std.specs.declared.cmp.Ordering.{Ordering}
use Rattle.std.specs.declared.cmp.Ordering.TheVariants.{Less, Equal, Greater}
use Rattle.std.proofs.lemmas.Cmp.{nat_list_cmp_total}
use Rattle.std.proofs.lemmas.List.{length-map, get_or-map}
use Rattle.std.proofs.lemmas.List.Elements.{All-tail}
use Rattle.nuc_base.specs.declared.node.Node.{Node}
use Rattle.nuc_base.proofs.Maps.{one_node}
use Rattle.nuc_folder.specs.Listing.{AreBelow, AreInside, IsBefore, IsIn, IsListing, OneListing, Unfolds, item_of, keys_of}
use Rattle.nuc_folder.specs.Listing.Unfolds.{none, next}
use Rattle.nuc_folder.specs.State.{FolderState}
use Rattle.nuc_folder.specs.declared.item.Item.{Item}
use Rattle.nuc_folder.proofs.ByName.{item_parts}

-- one of the items is this one
abbrev pub Has : List Item → Item → Type 0
Has [] a = ⊥
Has (i ∷ items) a = (i ≡ a) ⊎ Has items a

find_at : (items : List Item) (a : Item) → Has items a → (k : ℕ) × (k < length items) × ((d : Item) → get_or items k d ≡ a)
find_at [] a never = absurd never
find_at (i ∷ items) a (inl same) = (0, omega arith, λ d. same)
find_at (i ∷ items) a (inr there) =
    let row = find_at items a there in
    let below = row.1 in
    (suc row.0, omega (arith, below), row.2)

-- each comes before those after it
abbrev pub Rising : List Item → Type 0
Rising [] = Unit {0}
Rising (i ∷ items) = ((a : Item) → Has items a → IsBefore i a) × Rising items

rising_of : (items : List Item) → AllPairs IsBefore items → Rising items
rising_of [] rising = tt
rising_of (i ∷ items) rising = (
  λ a there.
      let row = find_at items a there in
      let below = row.1 in
      subst (IsBefore i) (row.2 i) (rising 0 (suc row.0) i (omega arith) (omega (arith, below))),
  rising_of items (λ p q d less below. rising (suc p) (suc q) d (omega (arith, less)) (omega (arith, below))),
)

not_both_ways : (r q : Ordering) → r ≡ ordering_reverse q → r ≡ Less → q ≡ Less → ⊥
not_both_ways r q e f g = let clash : Less ≡ Greater = sym f ∙ e ∙ ap ordering_reverse g in cc

apart : (i j : Item) → IsBefore i j → IsBefore j i → ⊥
apart i j e f = not_both_ways (slice_cmp nat_cmp i.name j.name) (slice_cmp nat_cmp j.name i.name) (nat_list_cmp_total.antisymm i.name j.name) e f

-- what rises is told by what is in it
same_rising : (a b : List Item) → ((i : Item) → Has a i → Has b i) → ((i : Item) → Has b i → Has a i) → Rising a → Rising b → a ≡ b
same_rising [] [] to from up too = refl
same_rising [] (j ∷ b) to from up too = absurd (from j (inl refl))
same_rising (i ∷ a) [] to from up too = absurd (to i (inl refl))
same_rising (i ∷ a) (j ∷ b) to from (first, up) (first_too, too) =
    let head : i ≡ j = elim (to i (inl refl)) [
      | inl same ↦ sym same
      | inr there ↦ elim (from j (inl refl)) [
        | inl same ↦ same
        | inr here ↦ absurd (apart i j (first j here) (first_too i there))
      ]
    ] in
    let tail : a ≡ b = same_rising a b
    (λ k here. elim (to k (inr here)) [
      | inl same ↦ let is : k ≡ i = sym same ∙ sym head in absurd (apart i k (first k here) (subst (λ z. IsBefore k z) is (subst (λ z. IsBefore z k) (sym is) (first k here))))
      | inr there ↦ there
    ])
    (λ k there. elim (from k (inr there)) [
      | inl same ↦ let is : k ≡ j = sym same ∙ head in absurd (apart j k (first_too k there) (subst (λ z. IsBefore k z) is (subst (λ z. IsBefore z k) (sym is) (first_too k there))))
      | inr here ↦ here
    ]) up too in
    ap (λ z. z ∷ a) head ∙ ap (λ l. j ∷ l) tail

has_of_key : (items : List Item) (y : ℕ) → Contains (keys_of items) y → (i : Item) × Has items i × (i.key.0 ≡ y)
has_of_key [] y (k, below, e) = absurd (omega (arith, below))
has_of_key (i ∷ items) y (zero, below, e) = (i, inl refl, e)
has_of_key (i ∷ items) y (suc k, below, e) =
    let row = has_of_key items y (k, omega (arith, below), e) in
    (row.0, inr row.1, row.2)

-- the same item stands for a key in a folder
same_item : (s : FolderState) (x y : ℕ) (a b : Item) → IsIn s x a → IsIn s y b → a.key.0 ≡ b.key.0 → a ≡ b
same_item s x y a b own its key =
    let p = item_parts a.key.0 (get s.tree a.key.0) (get s.bytes a.key.0) a own.0 in
    let q = item_parts b.key.0 (get s.tree b.key.0) (get s.bytes b.key.0) b its.0 in
    let n : p.0 ≡ q.0 = one_node s.tree b.key.0 p.0 q.0 (subst (λ z. get s.tree z ≡ Some p.0) key p.1) q.1 in
    p.2 ∙ ap (λ z. item_of z p.0 (get s.bytes z)) key ∙ ap (λ (m : Node). item_of b.key.0 m (get s.bytes b.key.0)) n ∙ sym q.2

module _ (s : FolderState) (x : ℕ) where
  in_of : (items : List Item) → All (IsIn s x) items → (i : Item) → Has items i → IsIn s x i
  in_of items all i here = let row = find_at items i here in subst (IsIn s x) (row.2 i) (all row.0 i row.1)

  also_has : (a b : List Item) → AreInside s x a → AreInside s x b → (i : Item) → Has a i → Has b i
  also_has a b inside too i here =
      let (own, parent) = in_of a inside.each i here in
      let p = item_parts i.key.0 (get s.tree i.key.0) (get s.bytes i.key.0) i own in
      let up = sym (ap (λ (z : Item). z.parent.0) p.2) ∙ parent in
      let row = has_of_key b i.key.0 (too.all i.key.0 p.0 p.1 up) in
      subst (Has b) (same_item s x x row.0 i (in_of b too.each row.0 row.1) (own, parent) row.2) row.1

  one_inside : (a b : List Item) → AreInside s x a → AreInside s x b → a ≡ b
  one_inside a b inside too = same_rising a b (also_has a b inside too) (also_has b a too inside) (rising_of a inside.rising) (rising_of b too.rising)

one_unfolding : (s : FolderState) (top a b : List Item) → Unfolds s top a → Unfolds s top b → a ≡ b
one_unfolding s _ _ _ none none = refl
one_unfolding s _ _ _ (next item inside tops below rest is under more) (next _ others _ its ends too beneath most) =
    let same = one_inside s item.key.0 inside others is too in
    let mid = one_unfolding s others below its (subst (λ l. Unfolds s l below) same under) beneath in
    let end = one_unfolding s tops rest ends more most in
    ap (λ l. item ∷ (l ++ rest)) mid ∙ ap (λ l. item ∷ (its ++ l)) end

-- the items of what is below x are told by it
pub one_below : (s : FolderState) (x : ℕ) (items others : List Item) → AreBelow s x items → AreBelow s x others → items ≡ others
one_below s x items others is too =
    one_unfolding s too.top items others (subst (λ l. Unfolds s l items) (one_inside s x is.top too.top is.inside too.inside) is.unfolds) too.unfolds

pub one_listing : OneListing
one_listing s items others is too = one_below s 0 items others is too
