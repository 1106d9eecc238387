-- What a good listing is, item by item.
use Rattle.std.specs.Prelude.{◌≡◌, ◌<◌, ◌≤◌, ◌+◌, ◌⊎◌, ◌==◌, ℕ, List, [], ◌∷◌, ◌++◌, length, Option, None, Some, option_map, find}
use Rattle.std.specs.FinMap.{get}
use Rattle.nuc_base.specs.Names.{IsName}
use Rattle.nuc_base.specs.SamePlace.{SameName}
use Rattle.nuc_base.specs.Trees.{Nodes}
use Rattle.nuc_base.specs.declared.node.Kind.{Kind}
use Rattle.nuc_base.specs.declared.node.Kind.TheVariants.{Folder, File}
use Rattle.nuc_base.specs.declared.node.Node.{Node}
use Rattle.nuc_folder.specs.declared.item.Item.{Item}
use Rattle.nuc_hash.specs.Content.{ContentData}
use Rattle.nuc_observe.specs.Keys.{KeyMap}
use Rattle.nuc_observe.specs.declared.item_size.TheConstants.{MOST_BYTES}

-- an item is a file exactly where it has a content
abbrev pub kind_of : Option ContentData → Kind
kind_of None = Folder
kind_of (Some content) = File

-- the item of a key
abbrev pub item_of : List Item → ℕ → Option Item
item_of items key = find (λ item. item.key.0 == key) items

-- the kind of what is listed under a key
abbrev pub listed_kind : List Item → ℕ → Option Kind
listed_kind items key = option_map (λ item. kind_of item.content) (item_of items key)

-- the two can't stand beside each other
abbrev pub SameItemPlace : Item → Item → Type 0
SameItemPlace a b = (a.parent.0 ≡ b.parent.0) × SameName a.name b.name

-- none of these has the place of the item
abbrev pub IsPlacedApart : List Item → Item → Type 0
IsPlacedApart [] item = Unit {0}
IsPlacedApart (other ∷ others) item = ¬ (SameItemPlace other item) × IsPlacedApart others item

-- the folder itself, or a folder that is listed
abbrev pub IsListedFolder : List Item → ℕ → Type 0
IsListedFolder items key = (key ≡ 0) ⊎ (listed_kind items key ≡ Some Folder)

-- what Local has of the key's identity is of this kind
abbrev pub KeepsItemKind : KeyMap → Nodes → ℕ → Kind → Type 0
KeepsItemKind keys l key kind = (x : ℕ) (n : Node) → get keys x ≡ Some key → get l x ≡ Some n → n.kind ≡ kind

-- a file's content isn't too large
abbrev pub IsShort : Option ContentData → Type 0
IsShort None = Unit {0}
IsShort (Some content) = content.size ≤ MOST_BYTES

-- an item is good after those before it
pub record IsGood (keys : KeyMap) (l : Nodes) (earlier : List Item) (item : Item) : Type 0 where
  pub own : 0 < item.key.0
  pub new : listed_kind earlier item.key.0 ≡ None
  pub apart : IsPlacedApart earlier item
  pub parent : IsListedFolder earlier item.parent.0
  pub name : IsName item.name
  pub kind : KeepsItemKind keys l item.key.0 (kind_of item.content)
  pub short : IsShort item.content

-- each item is good after those before it
pub data IsGoodListing (keys : KeyMap) (l : Nodes) : List Item → Type 0 where
  nothing : IsGoodListing keys l []
  more : (earlier : List Item) (item : Item) → IsGoodListing keys l earlier → IsGood keys l earlier item → IsGoodListing keys l (earlier ++ item ∷ [])

-- an item is the first that isn't good, counted from 1, or else all are good
abbrev pub IsFirstBad : KeyMap → Nodes → List Item → Option ℕ → Type 0
IsFirstBad keys l items None = IsGoodListing keys l items
IsFirstBad keys l items (Some number) =
    (earlier : List Item) × (item : Item) × (later : List Item) × (items ≡ earlier ++ item ∷ later) × (number ≡ length earlier + 1)
    × IsGoodListing keys l earlier × ¬ (IsGood keys l earlier item)
