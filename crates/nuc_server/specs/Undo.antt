-- How the server's last tree is taken back.
use Rattle.std.specs.Prelude.{◌≡◌, ◌+◌, ◌<◌, ℕ, List, length, take, slice_get, Option, None, Some}
use Rattle.std.specs.FinMap as tree
use Rattle.nuc_base.specs.Kinds.{FitsKind}
use Rattle.nuc_base.specs.Legal.{LegalPut, LegalCut}
use Rattle.nuc_base.specs.Trees.{Nodes}
use Rattle.nuc_base.specs.declared.node.Node.{Node}
use Rattle.nuc_journal.specs.Entries.{tree_of}
use Rattle.nuc_journal.specs.declared.entry.Entry.{Entry}
use Rattle.nuc_server.specs.declared.undo.Undo.{Undo}
use Rattle.nuc_server.specs.declared.undo.Undo.TheVariants as undo

-- the tree after it
abbrev pub undone : Nodes → Undo → Nodes
undone m (undo.Remove id) = tree.remove m id.0
undone m (undo.Replace id old) = tree.insert m id.0 old
undone m (undo.Restore id old) = tree.insert m id.0 old

-- it may be done
abbrev pub IsUndoable : Nodes → Undo → Type 0
IsUndoable m (undo.Remove id) = LegalCut m id.0
IsUndoable m (undo.Replace id old) = (0 < id.0) × FitsKind old × LegalPut m id.0 old
IsUndoable m (undo.Restore id old) = (0 < id.0) × FitsKind old × LegalPut m id.0 old

-- it takes the change of x to this value back, in a tree that was m before
abbrev pub TakesBack : Nodes → ℕ → Option Node → Undo → Type 0
TakesBack m x (Some n) (undo.Remove id) = (id.0 ≡ x) × (tree.get m x ≡ None)
TakesBack m x (Some n) (undo.Replace id old) = (id.0 ≡ x) × (tree.get m x ≡ Some old)
TakesBack m x None (undo.Restore id old) = (id.0 ≡ x) × (tree.get m x ≡ Some old)
TakesBack m x value u = ⊥

-- of the entries behind the first n, each has the undo that takes it back
pub record AreUndone (es : List Entry) (n : ℕ) (undos : List Undo) : Type 0 where
  pub many : n + length undos ≡ length es
  pub each : (k : ℕ) (e : Entry) (u : Undo) → slice_get es (n + k) ≡ Some e → slice_get undos k ≡ Some u
      → TakesBack (tree_of (take (n + k) es)) e.id.0 e.value u
