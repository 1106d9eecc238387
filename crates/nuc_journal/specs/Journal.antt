-- Which entries make a journal.
use Rattle.std.specs.Prelude.{◌≡◌, ◌+◌, ◌<◌, ℕ, List, length, take, slice_get, Option, None, Some, IfSome}
use Rattle.nuc_base.specs.Kinds.{FitsKind}
use Rattle.nuc_base.specs.Legal.{LegalPut, LegalCut}
use Rattle.nuc_base.specs.Trees.{Nodes}
use Rattle.nuc_base.specs.declared.node.Kind.{Kind}
use Rattle.nuc_base.specs.declared.node.Node.{Node}
use Rattle.nuc_journal.specs.Entries.{tree_of, kind_of}
use Rattle.nuc_journal.specs.declared.entry.Entry.{Entry}

-- x never had a node of another kind
abbrev pub HadKind : List Entry → ℕ → Kind → Type 0
HadKind es x kind = IfSome (kind_of es x) (λ k. k ≡ kind)

-- x may have this value in place of the one that it has in the tree: none where its node may go
abbrev pub IsLegalValue : Nodes → ℕ → Option Node → Type 0
IsLegalValue m x None = LegalCut m x
IsLegalValue m x (Some n) = FitsKind n × LegalPut m x n

-- a node is of the kind that x always had
abbrev pub HasOldKind : List Entry → ℕ → Option Node → Type 0
HasOldKind es x None = Unit {0}
HasOldKind es x (Some n) = HadKind es x n.kind

-- e may come after these entries
pub record IsNextEntry (es : List Entry) (e : Entry) : Type 0 where
  pub rev : e.rev ≡ length es + 1
  pub id : 0 < e.id.0
  pub kind : HasOldKind es e.id.0 e.value
  pub legal : IsLegalValue (tree_of es) e.id.0 e.value

-- each entry could come when it came
abbrev pub IsJournal : List Entry → Type 0
IsJournal es = (k : ℕ) (e : Entry) → slice_get es k ≡ Some e → IsNextEntry (take k es) e
