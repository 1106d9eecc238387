use Rattle.std.specs.Prelude.{◌≡◌, ◌≤◌, ◌<◌, ◌+◌, ◌-◌, ◌^◌, ℕ, Bool, true, List, length, take}
use Rattle.nuc_journal.specs.Entries.{tree_of}
use Rattle.nuc_journal.specs.Journal.{IsJournal}
use Rattle.nuc_journal.specs.State.{JournalState}
use Rattle.nuc_journal.specs.declared.entry.Entry.{Entry}
use Rattle.nuc_tree.specs.State.{TreeState}
use Rattle.nuc_server.specs.Undo.{AreUndone}
use Rattle.nuc_server.specs.declared.undo.Undo.{Undo}

-- what a caller sees of the server: the journal, that of the last settling, and whether the next commit needs no memory
pub record ServerState : Type 0 where
  pub now : List Entry
  pub settled : List Entry
  pub ready : Bool

-- the room for one entry more is there, beside that for taking back the last ones
pub record IsReady (j : JournalState) (t : TreeState) (undos undo_room rooms : ℕ) : Type 0 where
  pub next : length j.now + 1 < 2 ^ 64
  pub entry : 0 < j.spare
  pub node : undos + 2 ≤ t.spare
  pub undo : undos < undo_room
  pub names : 2 ≤ rooms

-- the tree is that of the last revision, the entries behind the settled ones can be taken back, and the tree has the room for it
pub record IsServer (j : JournalState) (t : TreeState) (undos : List Undo) (undo_room rooms : ℕ) (ready : Bool) : Type 0 where
  pub journal : IsJournal j.now
  pub tree : t.nodes ≡ tree_of j.now
  pub settled : j.settled ≡ take (length j.now - length undos) j.now
  pub undone : AreUndone j.now (length j.now - length undos) undos
  pub room : length undos ≤ t.spare
  pub is_ready : ready ≡ true → IsReady j t (length undos) undo_room rooms
