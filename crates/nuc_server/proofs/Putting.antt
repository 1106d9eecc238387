-- Which nodes the web's edits may put.
use Rattle.std.proofs.Common.{◌≡◌, ◌<◌, ℕ, Bool, List, Option, None, Some, refl, sym, ap, subst, ◌∙◌, inl, inr, arith}
use Rattle.std.specs.FinMap as tree
use Rattle.nuc_base.specs.Kinds.{Fits}
use Rattle.nuc_base.specs.Legal.{LegalPut}
use Rattle.nuc_base.specs.Trees.{Nodes, IsFolder, IsVacant, WellFormed}
use Rattle.nuc_base.specs.declared.node.Kind.{Kind}
use Rattle.nuc_base.specs.declared.node.Kind.TheVariants.{Folder, File}
use Rattle.nuc_base.specs.declared.node.Node.{Node}
use Rattle.nuc_base.proofs.Alike.{under_absent}
use Rattle.nuc_base.proofs.Depths.{no_loop}
use Rattle.nuc_base.proofs.Maps.{not_both, one_node, same_or_not}
use Rattle.nuc_journal.specs.Entries.{kind_of, tree_of}
use Rattle.nuc_journal.specs.Journal.{HadKind, IsJournal}
use Rattle.nuc_journal.specs.declared.entry.Entry.{Entry}
use Rattle.nuc_server.specs.WebEdits.{IsMoved}
use Rattle.nuc_server.proofs.Judging.{kind_there}

-- an identity without a node gets one at a place that nobody has
pub legal_new : (m : Nodes) (x : ℕ) (node : Node) → WellFormed m → 0 < x → tree.get m x ≡ None → IsFolder m node.place.parent.0 → IsVacant m node.place → LegalPut m x node
legal_new m x node form above gone folder vacant = record {
  kind = λ n at. absurd (not_both m x n gone at);
  parent = folder;
  free = λ y n at same. absurd (vacant y n at same);
  no_cycle = under_absent m x node.place.parent.0 form above folder gone;
}

-- and one that has a node another at the same place
pub legal_here : (m : Nodes) (x : ℕ) (n node : Node) → WellFormed m → tree.get m x ≡ Some n → node.kind ≡ n.kind → node.place ≡ n.place → LegalPut m x node
legal_here m x n node form at kind place = record {
  kind = λ k there. ap (λ (k : Node). k.kind) (one_node m x k n there at) ∙ sym kind;
  parent = rw place (form.parents x n at);
  free = λ y k there same. form.places y x k n there at (rw (← place) same);
  no_cycle = rw place (no_loop m x n form at);
}

pub fits_bit : (kind : Kind) (ver : ℕ) (bit on : Bool) → kind ≡ File → Fits kind ver bit → Fits kind ver on
fits_bit Folder ver bit on file fits = cc
fits_bit File ver bit on file fits = fits

-- what never had a node may be of any kind
pub any_kind : (es : List Entry) (x : ℕ) (kind : Kind) → kind_of es x ≡ None → HadKind es x kind
any_kind es x kind none = rw none tt

-- what has a node is of its kind
pub own_kind : (es : List Entry) (x : ℕ) (n : Node) (kind : Kind) → IsJournal es → tree.get (tree_of es) x ≡ Some n → kind ≡ n.kind → HadKind es x kind
own_kind es x n kind journal at same = rw (kind_there es x n journal at) (sym same)

-- a node that was moved was there
pub moved_from : (before : Option Node) (node : Node) → IsMoved before node → (n : Node) × (before ≡ Some n) × (node.kind ≡ n.kind)
moved_from None node none = absurd none
moved_from (Some n) node (kind, ver, bit) = (n, refl, kind)

-- the root has no node
pub above_root : (m : Nodes) (x : ℕ) (n : Node) → WellFormed m → tree.get m x ≡ Some n → 0 < x
above_root m x n form at = elim (same_or_not x 0) [
  | inl root ↦ absurd (not_both m 0 n form.no_root (subst (λ y. tree.get m y ≡ Some n) root at))
  | inr apart ↦ omega (arith, apart)
]
