-- A listing grows item by item.
use Rattle.std.proofs.Common.{◌≡◌, ◌<◌, ◌≤◌, ◌+◌, ◌-◌, ℕ, List, [], ◌∷◌, ◌++◌, length, get_or, Option, Some, All, refl, sym, subst, ap, ◌∙◌, arith, append_assoc}
use Rattle.std.specs.FinMap.{get, len}
use Rattle.std.proofs.lemmas.List.Elements.{All-contains, Contains-append_right}
use Rattle.nuc_base.specs.Trees.{Nodes, Steps}
use Rattle.nuc_base.specs.declared.node.Node.{Node}
use Rattle.nuc_shelf.specs.Shelf.{IsShelf}
use Rattle.nuc_folder.specs.Listing.{Adds, AreBelow, AreInside, IsIn, Unfolds, item_of}
use Rattle.nuc_folder.specs.Listing.Unfolds.{none, next}
use Rattle.nuc_folder.specs.State.{FolderState}
use Rattle.nuc_folder.specs.declared.item.Item.{Item}
use Rattle.nuc_folder.proofs.ByName.{item_parts}
use Rattle.nuc_folder.proofs.Walk.{HasRoom, room_below, some_left}

append_nil : {A : Type 0} (xs : List A) → xs ≡ xs ++ []
append_nil [] = refl
append_nil (x ∷ xs) = ap (λ l. x ∷ l) (append_nil xs)

pub none_added : {A : Type 0} (xs : List A) → xs ≡ xs ++ []
none_added xs = append_nil xs

-- an item more, with what is below it
unfolds_more : (s : FolderState) (top all : List Item) (item : Item) (inside below : List Item) → Unfolds s top all → AreInside s item.key.0 inside → Unfolds s inside below
    → Unfolds s (top ++ item ∷ []) (all ++ item ∷ below)
unfolds_more s top all item inside below none is unfolds =
    subst (λ l. Unfolds s (item ∷ []) (item ∷ l)) (sym (append_nil below)) (next item inside [] below [] is unfolds none)
unfolds_more s top all item inside below (next other within tops under rest its under_it more) is unfolds =
    subst (λ l. Unfolds s (other ∷ (tops ++ item ∷ [])) (other ∷ l)) (sym (append_assoc under rest (item ∷ below)))
    (next other within (tops ++ item ∷ []) under (rest ++ item ∷ below) its under_it (unfolds_more s tops rest item inside below more is unfolds))

pub item_added : (s : FolderState) (top before now with_item after : List Item) (item : Item) → with_item ≡ now ++ item ∷ []
    → (below : List Item) × (now ≡ before ++ below) × Unfolds s top below → Adds s item.key.0 with_item after
    → (below : List Item) × (after ≡ before ++ below) × Unfolds s (top ++ item ∷ []) below
item_added s top before now with_item after item pushed (all, so_far, unfolds) (below, grown, under) = (
  all ++ item ∷ below,
  grown ∙ ap (λ l. l ++ below) pushed ∙ append_assoc now (item ∷ []) below ∙ ap (λ l. l ++ item ∷ below) so_far ∙ append_assoc before all (item ∷ below),
  unfolds_more s top all item under.top below unfolds under.inside under.unfolds,
)

-- the next item is in the folder
next_in : (s : FolderState) (x : ℕ) (done rest : List Item) (item : Item) → AreInside s x (done ++ item ∷ rest) → IsIn s x item
next_in s x done rest item inside = All-contains (IsIn s x) (done ++ item ∷ rest) item inside.each (Contains-append_right done (item ∷ rest) item (0, omega arith, refl))

pub item_room : (s : FolderState) (x left : ℕ) (done rest more : List Item) (item : Item) → IsShelf s → HasRoom s.tree x left → rest ≡ item ∷ more → AreInside s x (done ++ rest)
    → (1 ≤ left) × HasRoom s.tree item.key.0 (left - 1)
item_room s x left done rest more item shelf room is inside =
    let (own, parent) = next_in s x done more item (subst (λ l. AreInside s x (done ++ l)) is inside) in
    let p = item_parts item.key.0 (get s.tree item.key.0) (get s.bytes item.key.0) item own in
    let up = sym (ap (λ (i : Item). i.parent.0) p.2) ∙ parent in
    (some_left s.tree x left item.key.0 p.0 shelf.form room p.1 up, room_below s.tree x left item.key.0 p.0 shelf.form room p.1 up)
