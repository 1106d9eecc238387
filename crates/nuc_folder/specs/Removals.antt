-- What a user's removal makes of a folder: all that is below goes first, one after the other.
use Rattle.std.specs.Prelude.{◌≡◌, ◌⊎◌, ℕ, List, [], ◌∷◌, map, reverse, Some}
use Rattle.std.specs.FinMap.{get}
use Rattle.nuc_base.specs.Trees.{Nodes}
use Rattle.nuc_base.specs.declared.node.Node.{Node}
use Rattle.nuc_shelf.specs.Shelf.{ShelfState, without}
use Rattle.nuc_folder.specs.Listing.{AreBelow, keys_of}
use Rattle.nuc_folder.specs.UserEdits.{Finds}
use Rattle.nuc_folder.specs.declared.item.Item.{Item}
use Rattle.nuc_folder.specs.declared.noticed.Noticed.{Noticed}
use Rattle.nuc_folder.specs.declared.noticed.Noticed.TheVariants as noticed

-- what is held without these keys, which go one after the other
abbrev pub all_cut : ShelfState → List ℕ → ShelfState
all_cut s [] = s
all_cut s (x ∷ keys) = all_cut (without s x) keys

-- the notices of that
abbrev pub removed : List ℕ → List Noticed
removed keys = map (λ x. noticed.Removed (record { 0 = x })) keys

-- these are the keys of what the path leads to and of all that is below it, in the order of the listing
abbrev pub FindsAll : ShelfState → List (List ℕ) → List ℕ → Type 0
FindsAll s names keys = (x : ℕ) × (n : Node) × (items : List Item) × Finds s.tree names x n × AreBelow s x items × (keys ≡ x ∷ keys_of items)

-- all of it is removed, in the reverse order of the listing, each with a notice of its own
abbrev pub Removes : ShelfState → List (List ℕ) → List Noticed → ShelfState → Type 0
Removes s names notices t = (keys : List ℕ) × FindsAll s names keys × (t ≡ all_cut s (reverse keys)) × (notices ≡ removed (reverse keys))

-- x is one of the keys
abbrev pub Has : List ℕ → ℕ → Type 0
Has [] x = ⊥
Has (y ∷ keys) x = (y ≡ x) ⊎ Has keys x

-- what stands in the folder of a key comes later than the key
abbrev pub ChildrenLater : Nodes → List ℕ → Type 0
ChildrenLater m [] = Unit {0}
ChildrenLater m (x ∷ keys) = ((y : ℕ) (n : Node) → get m y ≡ Some n → n.place.parent.0 ≡ x → Has keys y) × ChildrenLater m keys
