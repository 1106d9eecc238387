-- What a call makes of a state.
use Rattle.std.specs.Prelude.{◌≡◌, ◌≤◌, ◌+◌, ℕ, suc, [], ◌∷◌, length}
use Rattle.nuc_undo.specs.State.{UndoState, settled_of}

-- the same tree with the same past, and no less spare
pub record KeepsTree (s t : UndoState) : Type 0 where
  pub now : t.now ≡ s.now
  pub past : t.past ≡ s.past
  pub spare : s.spare ≤ t.spare

-- that, and the same is laid by, now and once all changes are taken back
pub record Keeps (s t : UndoState) : Type 0 where
  pub now : t.now ≡ s.now
  pub past : t.past ≡ s.past
  pub spare : s.spare ≤ t.spare
  pub laid : t.laid ≡ s.laid
  pub laid_then : t.laid_then ≡ s.laid_then

-- nothing is to be taken back
pub record IsSettled (s : UndoState) : Type 0 where
  pub past : s.past ≡ []
  pub laid : s.laid_then ≡ s.laid

-- the tree of x was changed: the one before is the latest of the past, at most one of the spare is taken, and what will
-- be laid by once all changes are taken back is the same
pub record Changed (s : UndoState) (x : ℕ) (t : UndoState) : Type 0 where
  pub past : t.past ≡ record { nodes = s.now; id = x } ∷ s.past
  pub spare : s.spare ≤ t.spare + 1
  pub laid_then : t.laid_then ≡ s.laid_then

-- the last change was taken back: one less is left, and what it took is spare again
pub record TakenBack (s t : UndoState) : Type 0 where
  pub past : length s.past ≡ suc (length t.past)
  pub spare : s.spare + 1 ≤ t.spare
  pub laid_then : t.laid_then ≡ s.laid_then

-- all changes were taken back: the tree is the settled one, what they took is spare again, and what came from the stock
-- is laid by again
pub record AllTakenBack (s t : UndoState) : Type 0 where
  pub now : t.now ≡ settled_of s
  pub past : t.past ≡ []
  pub spare : s.spare + length s.past ≤ t.spare
  pub laid : t.laid ≡ s.laid_then
  pub laid_then : t.laid_then ≡ s.laid_then
