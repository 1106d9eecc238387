-- What stands in a tree after a change of one identity.
use Rattle.std.proofs.Common.{◌≡◌, ◌≢◌, ◌<◌, ℕ, Some, refl, sym, ap, subst, ◌∙◌, inl, inr}
use Rattle.std.specs.FinMap.{get}
use Rattle.nuc_base.specs.Changes.{node_after, changed, IsLegal, FitsChange, KeepsKind}
use Rattle.nuc_base.specs.Trees.{Nodes, OneKind, WellFormed}
use Rattle.nuc_base.specs.declared.change.Change.{Change}
use Rattle.nuc_base.specs.declared.change.Change.TheVariants.{Keep, Put, Cut}
use Rattle.nuc_base.specs.declared.node.Node.{Node}
use Rattle.nuc_base.proofs.Forms.{put_keeps, cut_keeps}
use Rattle.nuc_base.proofs.Maps.{same_or_not, one_node, not_both, get_put_same, get_put_other, get_cut_same, get_cut_other}

-- the identity that changed
pub get_changed_same : (m : Nodes) (x : ℕ) (c : Change) → get (changed m x c) x ≡ node_after c (get m x)
get_changed_same m x Keep = refl
get_changed_same m x (Put n) = get_put_same m x n
get_changed_same m x Cut = get_cut_same m x

-- any other
pub get_changed_other : (m : Nodes) (x : ℕ) (c : Change) (y : ℕ) → y ≢ x → get (changed m x c) y ≡ get m y
get_changed_other m x Keep y apart = refl
get_changed_other m x (Put n) y apart = get_put_other m x n y apart
get_changed_other m x Cut y apart = get_cut_other m x y apart

-- the one that changed, where it is only known to be x
pub get_changed_at : (m : Nodes) (x : ℕ) (c : Change) (y : ℕ) → y ≡ x → get (changed m x c) y ≡ node_after c (get m y)
get_changed_at m x c y e = subst (λ z. get (changed m x c) z ≡ node_after c (get m z)) (sym e) (get_changed_same m x c)

-- a legal change keeps a tree well formed
pub tree_after : (m : Nodes) (x : ℕ) (c : Change) → WellFormed m → 0 < x → FitsChange c → IsLegal m x c → WellFormed (changed m x c)
tree_after m x Keep form below fits legal = form
tree_after m x (Put n) form below fits legal = put_keeps m x n form legal below fits
tree_after m x Cut form below fits legal = cut_keeps m x form legal

-- and its nodes of the kinds of another tree
pub kinds_after : (m k : Nodes) (x : ℕ) (c : Change) → OneKind m k → KeepsKind k x c → OneKind (changed m x c) k
kinds_after m k x Keep kinds keeps y n h e f = kinds y n h e f
kinds_after m k x (Put node) kinds keeps y n h e f = elim (same_or_not y x) [
  | inl s ↦
      let now : node ≡ n = one_node (changed m x (Put node)) y node n (get_changed_at m x (Put node) y s) e in
      sym (ap (λ (r : Node). r.kind) now) ∙ sym (keeps h (subst (λ z. get k z ≡ Some h) s f))
  | inr apart ↦ kinds y n h (sym (get_changed_other m x (Put node) y apart) ∙ e) f
]
kinds_after m k x Cut kinds keeps y n h e f = elim (same_or_not y x) [
  | inl s ↦ absurd (not_both (changed m x Cut) y n (get_changed_at m x Cut y s) e)
  | inr apart ↦ kinds y n h (sym (get_changed_other m x Cut y apart) ∙ e) f
]
