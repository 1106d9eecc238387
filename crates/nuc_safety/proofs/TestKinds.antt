-- The trees of the tests have nodes of one kind.
use Rattle.std.proofs.Common.{◌≡◌, ℕ, None, Some, ap, subst, sym, ◌∙◌, inl, inr}
use Rattle.std.specs.FinMap.{empty, get, get-empty, insert}
use Rattle.std.specs.Ordering.{nat_cmp}
use Rattle.nuc_base.specs.Trees.{Nodes, OneKind}
use Rattle.nuc_base.specs.declared.node.Kind.{Kind}
use Rattle.nuc_base.specs.declared.node.Node.{Node}
use Rattle.nuc_base.proofs.Maps.{after_put, not_both}

abbrev pub AllOfKind : Nodes → Kind → Type 0
AllOfKind m kind = (x : ℕ) (n : Node) → get m x ≡ Some n → n.kind ≡ kind

pub kind_of_empty : (m : Nodes) (kind : Kind) → m ≡ empty → AllOfKind m kind
kind_of_empty m kind none x n at = absurd (not_both m x n (subst (λ (t : Nodes). get t x ≡ None) (sym none) (get-empty nat_cmp x)) at)

pub kind_after_put : (m k : Nodes) (x : ℕ) (node : Node) (kind : Kind) → k ≡ insert m x node → node.kind ≡ kind → AllOfKind m kind → AllOfKind k kind
kind_after_put m k x node kind is same before y n at = elim (after_put m x node y n (subst (λ (t : Nodes). get t y ≡ Some n) is at)) [
  | inl (e, own) ↦ ap (λ (h : Node). h.kind) own ∙ same
  | inr (other, old) ↦ before y n old
]

pub kinds_of_empty : (m k : Nodes) → m ≡ empty → OneKind m k
kinds_of_empty m k none x n h at there = absurd (not_both m x n (subst (λ (t : Nodes). get t x ≡ None) (sym none) (get-empty nat_cmp x)) at)
