use Rattle.std.specs.Prelude.{◌≡◌, ◌+◌, ◌-◌, ◌≤◌, ℕ, List, [], ◌∷◌, ◌++◌, length, min, refl}
use Rattle.std.specs.Coded.{Coded, code_by, coded×, coded_ℕ, coded_list}
use Rattle.std.specs.FinMap.{get, len}
use Rattle.nuc_lookup.specs.Lookup.{LookupState, numbers_code}
use Rattle.nuc_lookup.specs.Rows.{Numbers}
use Rattle.nuc_lookup.specs.Undo.{first_of, led}
use Rattle.nuc_lookup.specs.declared.undo.Undo.{Undo}
use Rattle.nuc_lookup.specs.declared.undone.Undone.{Undone}

-- what a caller sees of a look-up with undo: where numbers lead now, where they led before each change since the last
-- settling, the oldest first, and how many changes more need no memory
pub record UndoLookupState : Type 0 where
  pub now : Numbers
  pub past : List Numbers
  pub spare : ℕ

abbrev pub undo_lookup_code : Coded UndoLookupState
undo_lookup_code = code_by (Numbers × (List Numbers × ℕ)) (coded× numbers_code (coded× (coded_list numbers_code) coded_ℕ))
    (λ s. (s.now, (s.past, s.spare))) (λ t. record { now = t.0; past = t.1.0; spare = t.1.1 }) (λ _. refl)

-- the first of these, or else m
abbrev pub first_or : List Numbers → Numbers → Numbers
first_or [] m = m
first_or (first ∷ past) m = first

-- what the last settling kept
abbrev pub settled_of : UndoLookupState → Numbers
settled_of s = first_or s.past s.now

-- how many rows there can be at most: those of the last settling, and one for each change since
abbrev pub most_of : UndoLookupState → ℕ
most_of s = len (settled_of s) + length s.past

-- the last change was taken back: the last of the past is what there is now, which differs at one number at most
pub record TakenBack (old : UndoLookupState) (u : Undone) (new : UndoLookupState) : Type 0 where
  pub past : old.past ≡ new.past ++ new.now ∷ []
  pub now : new.now ≡ led old.now u.from u.before
  pub after : u.after ≡ get old.now u.from

-- how many changes more have room: each may add a row, and is noted
abbrev pub spare_of : ℕ → ℕ → ℕ → ℕ → ℕ
spare_of room undo_room settled undos = min (room - (settled + undos)) (undo_room - undos)

-- there were so many rows at the last settling, and there is room to lead back to them
pub record IsKept (l : LookupState) (undos : List Undo) (settled : ℕ) : Type 0 where
  pub size : settled ≡ len (first_of l.numbers undos)
  pub room : settled + length undos ≤ l.room
