-- The folder of a kept image: what rows must be so that it is one, and what it holds then.
use Rattle.std.specs.Prelude.{◌≡◌, ◌≢◌, ◌⊎◌, ◌<◌, ◌≤◌, ◌+◌, ◌==◌, ℕ, Bool, false, List, [], ◌∷◌, length, cond, Option, None, Some}
use Rattle.std.specs.FinMap.{get}
use Rattle.nuc_base.specs.SamePlace.{SamePlace}
use Rattle.nuc_base.specs.Trees.{Nodes, Held, IsFolder, IsThere}
use Rattle.nuc_base.specs.declared.node.Node.{Node}
use Rattle.nuc_base.specs.declared.node.Place.{Place}
use Rattle.nuc_shelf.specs.Shelf.{file_at, folder_at, with_file, with_folder}
use Rattle.nuc_folder.specs.State.{FolderState, place_of}
use Rattle.nuc_folder.specs.declared.shelved.Shelved.{Shelved}
use Rattle.nuc_folder.specs.declared.shelved.ShelvedFault.{ShelvedFault}
use Rattle.nuc_folder.specs.declared.shelved.ShelvedFault.TheVariants as shelved
use Rattle.nuc_folder.specs.declared.shelved.TheConstants.{MOST_SHELVED}

-- ROWS
-- the row is among them
abbrev pub Has : List Shelved → Shelved → Type 0
Has [] row = ⊥
Has (r ∷ rows) row = (r ≡ row) ⊎ Has rows row

abbrev pub one : Bool → ℕ
one b = cond b 1 0

-- how many rows have the key x
abbrev pub count : ℕ → List Shelved → ℕ
count x [] = 0
count x (r ∷ rows) = one (r.key.0 == x) + count x rows

-- the first row with the key x
abbrev pub row_of : ℕ → List Shelved → Option Shelved
row_of x [] = None
row_of x (r ∷ rows) = cond (r.key.0 == x) (Some r) (row_of x rows)

-- the node of a file of these bytes, or of a folder
abbrev pub node_at : Option (List ℕ) → Place → Bool → Node
node_at None place bit = folder_at place
node_at (Some bytes) place bit = file_at place bit

abbrev pub node_of : Shelved → Node
node_of row = node_at row.bytes (place_of row.place) row.bit

-- the node and the bytes of a row, where there is one
abbrev pub node_in : Option Shelved → Option Node
node_in None = None
node_in (Some row) = Some (node_of row)

abbrev pub bytes_in : Option Shelved → Option (List ℕ)
bytes_in None = None
bytes_in (Some row) = row.bytes

-- GOOD ROWS
-- a file isn't too long, and a folder hasn't the bit
abbrev pub FitsBytes : Option (List ℕ) → Bool → Type 0
FitsBytes None bit = bit ≡ false
FitsBytes (Some bytes) bit = length bytes ≤ MOST_SHELVED

-- so is a row for itself, below the next key
abbrev pub IsFit : ℕ → Shelved → Type 0
IsFit next row = (0 < row.key.0) × (row.key.0 < next) × FitsBytes row.bytes row.bit

-- from x on parents lead to the folder itself, by folders among the rows
pub data Rooted (rows : List Shelved) : ℕ → Type 0 where
  top : Rooted rows 0
  inside : (row : Shelved) → Has rows row → row.bytes ≡ None → Rooted rows row.place.parent.0 → Rooted rows row.key.0

-- what the rows hold: each row is fit and has a key of its own, and at each key stands what its row says, nothing where no
-- row has it. That their parents are there and their places differ is in that the folder is well formed
pub record Holds (next : ℕ) (rows : List Shelved) (s : FolderState) : Type 0 where
  pub tree : (x : ℕ) → get s.tree x ≡ node_in (row_of x rows)
  pub bytes : (x : ℕ) → get s.bytes x ≡ bytes_in (row_of x rows)
  pub fit : (row : Shelved) → Has rows row → IsFit next row
  pub once : (x : ℕ) → count x rows ≤ 1

-- FAULTS
abbrev pub IsTooLong : Option (List ℕ) → Type 0
IsTooLong None = ⊥
IsTooLong (Some bytes) = MOST_SHELVED < length bytes

-- a row of the key x is among them, and is so
abbrev pub HasSuch : List Shelved → ℕ → (Shelved → Type 0) → Type 0
HasSuch rows x P = (row : Shelved) × Has rows row × (row.key.0 ≡ x) × P row

-- another key's row has the place
abbrev pub IsShared : List Shelved → Shelved → Type 0
IsShared rows row = (other : Shelved) × Has rows other × (other.key.0 ≢ row.key.0) × SamePlace (place_of other.place) (place_of row.place)

-- it is no key below the next, or several rows have it
abbrev pub IsBadKey : ℕ → List Shelved → Shelved → Type 0
IsBadKey next rows row = (row.key.0 ≡ 0) ⊎ ((next ≤ row.key.0) ⊎ (1 < count row.key.0 rows))

-- only where a row is so is a fault given; a next key of 0 is a bad key itself
abbrev pub Faulty : ℕ → List Shelved → ShelvedFault → Type 0
Faulty next rows (shelved.BadKey key) = ((next ≡ 0) × (key.0 ≡ 0)) ⊎ HasSuch rows key.0 (IsBadKey next rows)
Faulty next rows (shelved.NoParent key) = HasSuch rows key.0 (λ row. ¬ (Rooted rows row.place.parent.0))
Faulty next rows (shelved.Taken key) = HasSuch rows key.0 (IsShared rows)
Faulty next rows (shelved.TooLong key) = HasSuch rows key.0 (λ row. IsTooLong row.bytes)
Faulty next rows (shelved.HasBit key) = HasSuch rows key.0 (λ row. (row.bytes ≡ None) × (row.bit ≢ false))
Faulty next rows shelved.Memory = Unit {0}

-- ON THE WAY
-- what is held with the row, too
abbrev pub with_item : FolderState → ℕ → Place → Bool → Option (List ℕ) → FolderState
with_item s x place bit None = with_folder s x place
with_item s x place bit (Some bytes) = with_file s x place bit bytes

abbrev pub with_row : FolderState → Shelved → FolderState
with_row s row = with_item s row.key.0 (place_of row.place) row.bit row.bytes

-- why a row can't be put there, where its parent is there
abbrev pub RowFaulty : ℕ → Nodes → Shelved → ShelvedFault → Type 0
RowFaulty next m row (shelved.BadKey key) = (key.0 ≡ row.key.0) × ((row.key.0 ≡ 0) ⊎ ((next ≤ row.key.0) ⊎ IsThere m row.key.0))
RowFaulty next m row (shelved.NoParent key) = ⊥
RowFaulty next m row (shelved.Taken key) = (key.0 ≡ row.key.0) × Held m (place_of row.place) row.key.0
RowFaulty next m row (shelved.TooLong key) = (key.0 ≡ row.key.0) × IsTooLong row.bytes
RowFaulty next m row (shelved.HasBit key) = (key.0 ≡ row.key.0) × (row.bytes ≡ None) × (row.bit ≢ false)
RowFaulty next m row shelved.Memory = Unit {0}

-- the row is in
abbrev pub IsIn : ℕ → FolderState → Shelved → Type 0
IsIn next s row = (get s.tree row.key.0 ≡ Some (node_of row)) × (get s.bytes row.key.0 ≡ row.bytes) × IsFit next row

abbrev pub there : Option Node → ℕ
there None = 0
there (Some n) = 1

-- some rows are in, and the others wait in two lists
pub record Opens (next : ℕ) (rows : List Shelved) (s : FolderState) (left rest : List Shelved) : Type 0 where
  pub all : (row : Shelved) → Has rows row → IsIn next s row ⊎ (Has left row ⊎ Has rest row)
  pub waits : (row : Shelved) → Has left row ⊎ Has rest row → Has rows row
  pub source : (x : ℕ) (n : Node) → get s.tree x ≡ Some n → (row : Shelved) × Has rows row × (row.key.0 ≡ x) × IsIn next s row
  pub counts : (x : ℕ) → count x rows ≡ there (get s.tree x) + (count x left + count x rest)

-- none of these rows has its parent there
abbrev pub AreStuck : Nodes → List Shelved → Type 0
AreStuck m rows = (row : Shelved) → Has rows row → ¬ (IsFolder m row.place.parent.0)
