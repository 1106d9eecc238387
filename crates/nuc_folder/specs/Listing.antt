-- The listing of a folder: an item for each file and folder. Parents stand before what is in them, depth first, and what
-- is in one folder stands in the order of the names' bytes.
use Rattle.std.specs.Prelude.{◌≡◌, ◌≢◌, ℕ, List, [], ◌∷◌, ◌++◌, Option, None, Some, All, AllPairs, Contains, map, option_map}
use Rattle.std.specs.Cmp.Lexicographic.{slice_cmp}
use Rattle.std.specs.FinMap.{get}
use Rattle.std.specs.Ordering.{nat_cmp}
use Rattle.std.specs.declared.cmp.Ordering.TheVariants.{Less}
use Rattle.nuc_base.specs.Trees.{children}
use Rattle.nuc_base.specs.declared.node.Node.{Node}
use Rattle.nuc_hash.specs.Content.{content_of}
use Rattle.nuc_folder.specs.State.{FolderState}
use Rattle.nuc_folder.specs.declared.item.Item.{Item}

-- the item of a node with this key, where a file has these bytes
abbrev pub item_of : ℕ → Node → Option (List ℕ) → Item
item_of x n bytes = record {
  key = record { 0 = x };
  parent = record { 0 = n.place.parent.0 };
  content = option_map content_of bytes;
  name = n.place.name;
  bit = n.bit;
}

-- of the node that stands at x, and the bytes that are there
abbrev pub IsItemAt : ℕ → Option Node → Option (List ℕ) → Item → Type 0
IsItemAt x None bytes item = ⊥
IsItemAt x (Some n) bytes item = item ≡ item_of x n bytes

-- it is the item of what has its key
abbrev pub IsItem : FolderState → Item → Type 0
IsItem s item = IsItemAt item.key.0 (get s.tree item.key.0) (get s.bytes item.key.0) item

abbrev pub keys_of : List Item → List ℕ
keys_of items = map (λ item. item.key.0) items

-- the item of something that is in the folder x itself
abbrev pub IsIn : FolderState → ℕ → Item → Type 0
IsIn s x item = IsItem s item × (item.parent.0 ≡ x)

-- its name comes before that of the other, by the bytes
abbrev pub IsBefore : Item → Item → Type 0
IsBefore a b = slice_cmp nat_cmp a.name b.name ≡ Less

-- these are the items of what is in the folder x itself, in the order of the names
pub record AreInside (s : FolderState) (x : ℕ) (items : List Item) : Type 0 where
  pub each : All (IsIn s x) items
  pub all : (y : ℕ) (n : Node) → get s.tree y ≡ Some n → n.place.parent.0 ≡ x → Contains (keys_of items) y
  pub rising : AllPairs IsBefore items

-- the same in the order of the keys
pub record AreFound (s : FolderState) (x : ℕ) (items : List Item) : Type 0 where
  pub each : All (IsIn s x) items
  pub keys : keys_of items ≡ children s.tree x

-- the items of the first list, each with those of what is below it behind it
pub data Unfolds (s : FolderState) : List Item → List Item → Type 0 where
  none : Unfolds s [] []
  next : (item : Item) (inside items below rest : List Item) → AreInside s item.key.0 inside → Unfolds s inside below → Unfolds s items rest
      → Unfolds s (item ∷ items) (item ∷ (below ++ rest))

-- the items of what is below x
pub record AreBelow (s : FolderState) (x : ℕ) (items : List Item) : Type 0 where
  pub top : List Item
  pub inside : AreInside s x top
  pub unfolds : Unfolds s top items

-- the items of what is below x were added
abbrev pub Adds : FolderState → ℕ → List Item → List Item → Type 0
Adds s x before after = (below : List Item) × (after ≡ before ++ below) × AreBelow s x below

abbrev pub IsListing : FolderState → List Item → Type 0
IsListing s items = AreBelow s 0 items

-- a folder has one listing
abbrev pub OneListing : Type 0
OneListing = (s : FolderState) (items others : List Item) → IsListing s items → IsListing s others → items ≡ others
