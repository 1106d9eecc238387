-- A listing has an item of everything that a folder holds, and each of its items says what is held.
use Rattle.std.specs.Prelude.{All, Contains}
use Rattle.std.proofs.Common.{◌≡◌, ◌++◌, ◌⊎◌, ℕ, zero, suc, List, [], ◌∷◌, Some, refl, subst, inl, inr, arith}
use Rattle.std.specs.FinMap.{get}
use Rattle.nuc_base.specs.Trees.{IsUnder, WellFormed}
use Rattle.nuc_base.specs.Trees.Under.{here, up}
use Rattle.nuc_base.specs.declared.node.Node.{Node}
use Rattle.nuc_base.proofs.Forms.{folder_rooted}
use Rattle.nuc_folder.specs.Listing.{AreInside, IsIn, IsItem, IsListing, Unfolds, keys_of}
use Rattle.nuc_folder.specs.Listing.Unfolds.{none, next}
use Rattle.nuc_folder.specs.State.{FolderState}
use Rattle.nuc_folder.specs.declared.item.Item.{Item}
use Rattle.nuc_folder.proofs.OneListing.{Has}
use Rattle.nuc_world.proofs.Items.{all_first, all_rest}

-- AMONG ITEMS
pub has_left : (xs ys : List Item) (i : Item) → Has xs i → Has (xs ++ ys) i
has_left [] ys i has = absurd has
has_left (x ∷ xs) ys i (inl same) = inl same
has_left (x ∷ xs) ys i (inr has) = inr (has_left xs ys i has)

pub has_right : (xs ys : List Item) (i : Item) → Has ys i → Has (xs ++ ys) i
has_right [] ys i has = has
has_right (x ∷ xs) ys i has = inr (has_right xs ys i has)

pub has_either : (xs ys : List Item) (i : Item) → Has (xs ++ ys) i → Has xs i ⊎ Has ys i
has_either [] ys i has = inr has
has_either (x ∷ xs) ys i (inl same) = inl (inl same)
has_either (x ∷ xs) ys i (inr has) = elim (has_either xs ys i has) [
  | inl first ↦ inl (inr first)
  | inr second ↦ inr second
]

of_key : (items : List Item) (y : ℕ) → Contains (keys_of items) y → (i : Item) × Has items i × (i.key.0 ≡ y)
of_key [] y (k, below, e) = absurd (omega (arith, below))
of_key (i ∷ items) y (zero, below, e) = (i, inl refl, e)
of_key (i ∷ items) y (suc k, below, e) = let row = of_key items y (k, omega (arith, below), e) in (row.0, inr row.1, row.2)

pub all_has : (P : Item → Type 0) (items : List Item) (i : Item) → All P items → Has items i → P i
all_has P [] i all has = absurd has
all_has P (x ∷ items) i all (inl same) = subst P same (all_first P x items all)
all_has P (x ∷ items) i all (inr has) = all_has P items i (all_rest P x items all) has

module _ (s : FolderState) where
  top_in : (top all : List Item) (i : Item) → Unfolds s top all → Has top i → Has all i
  top_in _ _ i none has = has
  top_in _ _ i (next item inside tops below rest is under more) (inl same) = inl same
  top_in _ _ i (next item inside tops below rest is under more) (inr has) = inr (has_right below rest i (top_in tops rest i more has))

  -- all that is in the folder x itself is among the items
  record IsOpen (items : List Item) (x : ℕ) : Type 0 where
    inside : List Item
    are : AreInside s x inside
    listed : (i : Item) → Has inside i → Has items i

  -- so it is of each item
  opened : (top all : List Item) (i : Item) → Unfolds s top all → Has all i → IsOpen all i.key.0
  opened _ _ i none has = absurd has
  opened _ _ i (next item inside tops below rest is under more) (inl same) =
      subst (λ (j : Item). IsOpen (item ∷ (below ++ rest)) j.key.0) same
      (record { inside = inside; are = is; listed = λ j has. inr (has_left below rest j (top_in inside below j under has)) })
  opened _ _ i (next item inside tops below rest is under more) (inr has) = elim (has_either below rest i has) [
    | inl lower ↦ (let own = opened inside below i under lower in
        record { inside = own.inside; are = own.are; listed = λ j in_it. inr (has_left below rest j (own.listed j in_it)) })
    | inr later ↦ (let own = opened tops rest i more later in
        record { inside = own.inside; are = own.are; listed = λ j in_it. inr (has_right below rest j (own.listed j in_it)) })
  ]

  module _ (items : List Item) (listing : IsListing s items) where
    covered : (y : ℕ) → IsUnder s.tree y 0 → IsOpen items y
    covered y here = record { inside = listing.top; are = listing.inside; listed = λ i has. top_in listing.top items i listing.unfolds has }
    covered y (up a n at rest) =
        let above = covered n.place.parent.0 rest in
        let row = of_key above.inside a (above.are.all a n at refl) in
        subst (IsOpen items) row.2 (opened listing.top items row.0 listing.unfolds (above.listed row.0 row.1))

    -- what is held is listed
    pub listed_at : WellFormed s.tree → (y : ℕ) (n : Node) → get s.tree y ≡ Some n → (i : Item) × Has items i × (i.key.0 ≡ y)
    listed_at form y n at =
        let above = covered n.place.parent.0 (folder_rooted s.tree n.place.parent.0 form (form.parents y n at)) in
        let row = of_key above.inside y (above.are.all y n at refl) in
        (row.0, above.listed row.0 row.1, row.2)

  pub all_items : (top all : List Item) → ((i : Item) → Has top i → IsItem s i) → Unfolds s top all → (i : Item) → Has all i → IsItem s i
  all_items _ _ tops_are none i has = absurd has
  all_items _ _ tops_are (next item inside tops below rest is under more) i (inl same) = tops_are i (inl same)
  all_items _ _ tops_are (next item inside tops below rest is under more) i (inr has) = elim (has_either below rest i has) [
    | inl lower ↦ all_items inside below (λ j in_it. (all_has (IsIn s item.key.0) inside j is.each in_it).0) under i lower
    | inr later ↦ all_items tops rest (λ j in_it. tops_are j (inr in_it)) more i later
  ]

  -- and what is listed is held
  pub listed_is : (items : List Item) → IsListing s items → (i : Item) → Has items i → IsItem s i
  listed_is items listing = all_items listing.top items (λ i has. (all_has (IsIn s 0) listing.top i listing.inside.each has).0) listing.unfolds
