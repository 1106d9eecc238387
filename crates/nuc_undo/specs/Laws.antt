-- What changes and taking them back come to.
use Rattle.std.specs.Prelude.{ℕ, suc}
use Rattle.nuc_undo.specs.State.{UndoState}
use Rattle.nuc_undo.specs.Steps.{AllTakenBack, Changed, IsSettled, Keeps}

-- so many changes led from one state to the other
pub data Changes : ℕ → UndoState → UndoState → Type 0 where
  no_change : (s : UndoState) → Changes 0 s s
  one_change : (k x : ℕ) (s t u : UndoState) → Changes k s t → Changed t x u → Changes (suc k) s u

-- taking all changes back leads to where they began, if nothing else was to be taken back there
abbrev pub BackLeadsBack : Type 0
BackLeadsBack = (k : ℕ) (s t u : UndoState) → IsSettled s → Changes k s t → AllTakenBack t u → Keeps s u
