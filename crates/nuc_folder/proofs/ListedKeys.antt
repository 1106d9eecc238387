-- The keys of a listing are keys of the folder.
use Rattle.std.proofs.Common.{◌≡◌, ◌<◌, ℕ, List, [], ◌∷◌, ◌++◌, get_or, All, arith}
use Rattle.std.specs.FinMap.{get}
use Rattle.std.proofs.lemmas.List.Elements.{All-append, All-cons, All-nil, All-tail}
use Rattle.nuc_folder.specs.Listing.{AreInside, IsListing, Unfolds}
use Rattle.nuc_folder.specs.Listing.Unfolds.{none, next}
use Rattle.nuc_folder.specs.State.{FolderState, KeysBelow}
use Rattle.nuc_folder.specs.declared.item.Item.{Item}
use Rattle.nuc_folder.proofs.ByName.{item_parts}

module _ (n : ℕ) (s : FolderState) (below : KeysBelow n s) where
  abbrev pub IsLow : Item → Type 0
  IsLow item = item.key.0 < n

  inside_low : (x : ℕ) (items : List Item) → AreInside s x items → All IsLow items
  inside_low x items inside k d within =
      let item = get_or items k d in
      let p = item_parts item.key.0 (get s.tree item.key.0) (get s.bytes item.key.0) item (inside.each k d within).0 in
      below item.key.0 p.0 p.1

  unfolded_low : (top all : List Item) → All IsLow top → Unfolds s top all → All IsLow all
  unfolded_low _ _ low none = All-nil IsLow
  unfolded_low _ _ low (next item inside tops under rest is unfolds more) =
      All-cons IsLow item (under ++ rest) (low 0 item (omega arith))
      (All-append IsLow under rest (unfolded_low inside under (inside_low item.key.0 inside is) unfolds) (unfolded_low tops rest (All-tail IsLow item tops low) more))

  pub listed_low : (items : List Item) → IsListing s items → All IsLow items
  listed_low items listing = unfolded_low listing.top items (inside_low 0 listing.top listing.inside) listing.unfolds
