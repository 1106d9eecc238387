-- What a shelf holds, and what its calls make of that.
use Rattle.std.specs.Prelude.{◌≡◌, ℕ, Bool, false, List, Option, None, Some, IsSome}
use Rattle.std.specs.FinMap as map
use Rattle.std.specs.FinMap.{FinMap, get, insert, remove}
use Rattle.std.specs.Ordering.{nat_cmp}
use Rattle.nuc_base.specs.Legal.{LegalPut}
use Rattle.nuc_base.specs.Trees.{Nodes, WellFormed}
use Rattle.nuc_base.specs.declared.node.Kind.TheVariants.{Folder, File}
use Rattle.nuc_base.specs.declared.node.Node.{Node}
use Rattle.nuc_base.specs.declared.node.Place.{Place}

-- the bytes of files, by key
abbrev pub Bytes : Type 0
Bytes = FinMap nat_cmp (List ℕ)

-- files and folders, whose keys are the identities of the tree, and the bytes of the files
pub record ShelfState : Type 0 where
  pub tree : Nodes
  pub bytes : Bytes

-- what a shelf holds now, what it held when it was last settled, and for how many changes there is room
pub record ShelfStates : Type 0 where
  pub now : ShelfState
  pub settled : ShelfState
  pub spare : ℕ

-- a file stands at x
abbrev pub IsFile : Nodes → ℕ → Type 0
IsFile m x = (n : Node) × (get m x ≡ Some n) × (n.kind ≡ File)

-- the tree is well formed, each file has version 1, each file has bytes, and nothing else has
pub record IsShelf (s : ShelfState) : Type 0 where
  pub form : WellFormed s.tree
  pub versions : (x : ℕ) (n : Node) → get s.tree x ≡ Some n → n.kind ≡ File → n.ver.0 ≡ 1
  pub filled : (x : ℕ) → IsFile s.tree x → IsSome (get s.bytes x)
  pub files : (x : ℕ) → IsSome (get s.bytes x) → IsFile s.tree x

abbrev pub empty_shelf : ShelfState
empty_shelf = record { tree = map.empty; bytes = map.empty }

-- NODES
abbrev pub folder_at : Place → Node
folder_at place = record { place = place; kind = Folder; ver = record { 0 = 0 }; bit = false }

abbrev pub file_at : Place → Bool → Node
file_at place bit = record { place = place; kind = File; ver = record { 0 = 1 }; bit = bit }

abbrev pub placed : Place → Node → Node
placed place n = record n { place = place }

abbrev pub with_bit : Bool → Node → Node
with_bit bit n = record n { bit = bit }

-- the tree with f of the node in place of it, where there is one
abbrev pub changed : Nodes → ℕ → (Node → Node) → Option Node → Nodes
changed m x f None = m
changed m x f (Some n) = insert m x (f n)

abbrev pub with_changed : Nodes → ℕ → (Node → Node) → Nodes
with_changed m x f = changed m x f (get m x)

-- x is there, and may stand at the place
abbrev pub LegalMove : Nodes → ℕ → Place → Type 0
LegalMove m x place = (n : Node) × (get m x ≡ Some n) × LegalPut m x (placed place n)

-- CHANGES
-- with a folder under x
abbrev pub with_folder : ShelfState → ℕ → Place → ShelfState
with_folder s x place = record { tree = insert s.tree x (folder_at place); bytes = s.bytes }

-- with a file of these bytes under x
abbrev pub with_file : ShelfState → ℕ → Place → Bool → List ℕ → ShelfState
with_file s x place bit bytes = record { tree = insert s.tree x (file_at place bit); bytes = insert s.bytes x bytes }

-- with other bytes in the file x
abbrev pub refilled : ShelfState → ℕ → List ℕ → ShelfState
refilled s x bytes = record { tree = s.tree; bytes = insert s.bytes x bytes }

-- with x at the place
abbrev pub moved : ShelfState → ℕ → Place → ShelfState
moved s x place = record { tree = with_changed s.tree x (placed place); bytes = s.bytes }

-- with the bit of x as given
abbrev pub marked : ShelfState → ℕ → Bool → ShelfState
marked s x bit = record { tree = with_changed s.tree x (with_bit bit); bytes = s.bytes }

-- without x
abbrev pub without : ShelfState → ℕ → ShelfState
without s x = record { tree = remove s.tree x; bytes = remove s.bytes x }
