-- The bytes of files by key, and how changes of them are taken back.
use Rattle.std.specs.Prelude.{ℕ, ◌-◌, ◌/◌, List, [], ◌∷◌, min, length, Option, None, Some}
use Rattle.std.specs.FinMap.{from_entries, insert, remove}
use Rattle.nuc_shelf.specs.Shelf.{Bytes}
use Rattle.nuc_shelf.specs.declared.files.Undo.{Undo}

-- what there is now, what there was at the last settling, for how many changes there is room, and how many changes can be
-- taken back
pub record FilesState : Type 0 where
  pub now : Bytes
  pub settled : Bytes
  pub room : ℕ
  pub changes : ℕ

-- what these entries say
abbrev pub bytes_of : List (ℕ × List ℕ) → Bytes
bytes_of entries = from_entries entries

-- x has these bytes from now on, or none
abbrev pub led : Bytes → ℕ → Option (List ℕ) → Bytes
led m x None = remove m x
led m x (Some bytes) = insert m x bytes

-- what there was before the first of the changes that led to m
abbrev pub first_of : Bytes → List Undo → Bytes
first_of m [] = m
first_of m (u ∷ us) = led (first_of m us) u.key u.before

-- what a list of files shows: the entries, the changes that were noted, and the places for more of these and for more
-- entries. A change may take one of those, and another is kept for taking it back
abbrev pub files_state : List (ℕ × List ℕ) → List Undo → ℕ → ℕ → FilesState
files_state entries undos free spare = record {
  now = bytes_of entries;
  settled = first_of (bytes_of entries) undos;
  room = min free ((spare - length undos) / 2);
  changes = length undos;
}
