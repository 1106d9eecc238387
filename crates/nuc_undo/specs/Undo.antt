-- How changes of a tree are taken back.
use Rattle.std.specs.Prelude.{◌≡◌, ◌<◌, ◌+◌, ℕ, List, [], ◌∷◌}
use Rattle.std.specs.FinMap.{get, insert, remove}
use Rattle.nuc_base.specs.Kinds.{FitsKind}
use Rattle.nuc_base.specs.Legal.{LegalPut, LegalCut}
use Rattle.nuc_base.specs.Trees.{Nodes, IsThere}
use Rattle.nuc_undo.specs.Laid.{Laid, given_back}
use Rattle.nuc_undo.specs.Stock.{StockState, IsAway}
use Rattle.nuc_undo.specs.declared.undo.Step.{Step}
use Rattle.nuc_undo.specs.declared.undo.Undo.{Undo}
use Rattle.nuc_undo.specs.declared.undo.Undo.TheVariants as undo

-- ONE CHANGE
-- the tree after it
abbrev pub undone : Nodes → Undo → Nodes
undone m (undo.Remove id) = remove m id.0
undone m (undo.Replace id old) = insert m id.0 old
undone m (undo.Restore id old) = insert m id.0 old

-- it may be done
abbrev pub IsUndoable : Nodes → Undo → Type 0
IsUndoable m (undo.Remove id) = LegalCut m id.0
IsUndoable m (undo.Replace id old) = (0 < id.0) × FitsKind old × LegalPut m id.0 old × IsThere m id.0
IsUndoable m (undo.Restore id old) = (0 < id.0) × FitsKind old × LegalPut m id.0 old

-- whose node it changes
abbrev pub id_of : Undo → ℕ
id_of (undo.Remove id) = id.0
id_of (undo.Replace id old) = id.0
id_of (undo.Restore id old) = id.0

-- the room in the tree that is kept for it: none where it frees room itself, one where a put might want it, and of a
-- cut also what the cut freed
abbrev pub owed : Undo → ℕ
owed (undo.Remove id) = 0
owed (undo.Replace id old) = 1
owed (undo.Restore id old) = 2

-- it takes a change of x back, which led from the tree m to now
pub record TakesBack (m now : Nodes) (x : ℕ) (u : Undo) : Type 0 where
  pub able : IsUndoable now u
  pub same : undone now u ≡ m
  pub whose : id_of u ≡ x

-- ALL CHANGES, the last first
abbrev pub owed_all : List Step → ℕ
owed_all [] = 0
owed_all (s ∷ steps) = owed s.undo + owed_all steps

-- each may be taken back in its turn
abbrev pub AreUndoable : Nodes → List Step → Type 0
AreUndoable m [] = Unit {0}
AreUndoable m (s ∷ steps) = IsUndoable m s.undo × AreUndoable (undone m s.undo) steps

-- what is laid by once the change is taken back: the node that it put goes back to where it came from
abbrev pub laid_before : Nodes → Step → Laid → Laid
laid_before m s laid = given_back laid s.number (get m (id_of s.undo))

-- what is laid by once all are taken back
abbrev pub laid_first : Nodes → List Step → Laid → Laid
laid_first m [] laid = laid
laid_first m (s ∷ steps) laid = laid_first (undone m s.undo) steps (laid_before m s laid)

-- what came from the stock can go back in its turn
abbrev pub AreAway : Nodes → List Step → StockState → Type 0
AreAway m [] stock = Unit {0}
AreAway m (s ∷ steps) stock =
    IsAway stock s.number (get m (id_of s.undo)) × AreAway (undone m s.undo) steps (record { laid = laid_before m s stock.laid; numbers = stock.numbers })
