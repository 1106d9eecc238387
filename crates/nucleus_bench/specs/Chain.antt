-- Folders, each in the one before.
use Rattle.std.specs.Prelude.{◌≡◌, ◌+◌, ◌<◌, ℕ, List, length, None, Some}
use Rattle.std.specs.FinMap.{get}
use Rattle.nuc_base.specs.Trees.{IsFolder}
use Rattle.nuc_base.specs.declared.node.Kind.TheVariants.{Folder}
use Rattle.nuc_base.specs.declared.node.Node.{Node}
use Rattle.nuc_journal.specs.Entries.{tree_of}
use Rattle.nuc_journal.specs.Journal.{HadKind, IsJournal}
use Rattle.nuc_journal.specs.declared.entry.Entry.{Entry}

-- each entry gave the next identity a folder, in the folder of the identity before it
pub record IsChain (es : List Entry) : Type 0 where
  pub journal : IsJournal es
  pub parents : (x : ℕ) (n : Node) → get (tree_of es) x ≡ Some n → n.place.parent.0 + 1 ≡ x
  pub last : IsFolder (tree_of es) (length es)
  pub beyond : (x : ℕ) → length es < x → get (tree_of es) x ≡ None
  pub kinds : (x : ℕ) → HadKind es x Folder
