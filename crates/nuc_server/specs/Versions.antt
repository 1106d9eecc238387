-- A web edit loses no version.
use Rattle.std.specs.Prelude.{◌≡◌, ◌⊎◌, ◌<◌, ℕ, List, [], ◌∷◌, ◌++◌, Some}
use Rattle.std.specs.FinMap.{get}
use Rattle.nuc_base.specs.Trees.{Nodes}
use Rattle.nuc_base.specs.declared.node.Node.{Node}
use Rattle.nuc_edits.specs.declared.edit.Edit.{Edit}
use Rattle.nuc_edits.specs.declared.edit.EditKind.{EditKind}
use Rattle.nuc_edits.specs.declared.edit.EditKind.TheVariants.{Put, Deleted}
use Rattle.nuc_journal.specs.Entries.{tree_of}
use Rattle.nuc_journal.specs.Journal.{IsJournal}
use Rattle.nuc_journal.specs.declared.entry.Entry.{Entry}
use Rattle.nuc_server.specs.Web.{WebAnswers}
use Rattle.nuc_server.specs.WebEdits.{IsNextId, KeepsBlocks, WebState}
use Rattle.nuc_server.specs.declared.web_edit.WebEdit.{WebEdit}
use Rattle.nuc_server.specs.declared.web_edit.WebReply.{WebReply}

-- a node of the tree has the version
pub record HasVersion (m : Nodes) (v : ℕ) : Type 0 where
  pub id : ℕ
  pub node : Node
  pub here : get m id ≡ Some node
  pub ver : node.ver.0 ≡ v

-- an edit replaced the version
abbrev pub IsReplaced : List Edit → ℕ → Type 0
IsReplaced [] v = ⊥
IsReplaced (e ∷ es) v = (e.base.0 ≡ v) ⊎ IsReplaced es v

-- what was put under the version stands in the tree; the end of a file put nothing
abbrev pub StandsIn : Nodes → EditKind → ℕ → Type 0
StandsIn m (Put content) v = HasVersion m v
StandsIn m Deleted v = Unit {0}

abbrev pub AllStandIn : Nodes → List Edit → Type 0
AllStandIn m [] = Unit {0}
AllStandIn m (e ∷ es) = StandsIn m e.what e.ver.0 × AllStandIn m es

-- entries, blocks and edits only came. A version that a node of the tree had a node has still, or an edit replaced it, and
-- what the edits that came have put stands in the tree. Folders alone have the version 0
pub record LosesNothing (s t : WebState) : Type 0 where
  pub entries : List Entry
  pub edits : List Edit
  pub entered : t.entries ≡ s.entries ++ entries
  pub recorded : t.edits.edits ≡ s.edits.edits ++ edits
  pub blocks : KeepsBlocks s.blocks t.blocks
  pub kept : (v : ℕ) → 0 < v → HasVersion (tree_of s.entries) v → HasVersion (tree_of t.entries) v ⊎ IsReplaced t.edits.edits v
  pub put : AllStandIn (tree_of t.entries) edits

-- whatever a web edit is answered
abbrev pub WebLosesNothing : Type 0
WebLosesNothing = (s t : WebState) (e : WebEdit) (answer : WebReply) → IsJournal s.entries → IsNextId s.ids.next_id s.entries
    → WebAnswers s e answer t → LosesNothing s t
