-- A legal change can be taken back: what stood before is legal again, and leads to the tree before.
use Rattle.std.proofs.Common.{◌≡◌, ◌≢◌, ℕ, None, Some, sym, subst, ◌∙◌, ap, inl, inr}
use Rattle.std.specs.FinMap.{get, insert, remove}
use Rattle.nuc_base.specs.Legal.{LegalPut, LegalCut}
use Rattle.nuc_base.specs.Trees.{Nodes, IsFolder, IsUnder, WellFormed}
use Rattle.nuc_base.specs.Trees.Under.{here}
use Rattle.nuc_base.specs.declared.node.Node.{Node}
use Rattle.nuc_base.proofs.Chains.{under_before_cut, under_before_put}
use Rattle.nuc_base.proofs.Depths.{no_loop}
use Rattle.nuc_base.proofs.Forms.{folder_cut, folder_put}
use Rattle.nuc_base.proofs.Maps.{after_cut, after_put, get_cut_other, get_cut_same, get_put_other, get_put_same, not_both, one_node, same_nodes, same_or_not}

-- THE TREE BEFORE
pub put_over_put : (m : Nodes) (x : ℕ) (n old : Node) → get m x ≡ Some old → insert (insert m x n) x old ≡ m
put_over_put m x n old at = same_nodes (insert (insert m x n) x old) m (λ y. elim (same_or_not y x) [
  | inl s ↦ subst (λ z. get (insert (insert m x n) x old) z ≡ get m z) (sym s) (get_put_same (insert m x n) x old ∙ sym at)
  | inr other ↦ get_put_other (insert m x n) x old y other ∙ get_put_other m x n y other
])

pub cut_after_put : (m : Nodes) (x : ℕ) (n : Node) → get m x ≡ None → remove (insert m x n) x ≡ m
cut_after_put m x n absent = same_nodes (remove (insert m x n) x) m (λ y. elim (same_or_not y x) [
  | inl s ↦ subst (λ z. get (remove (insert m x n) x) z ≡ get m z) (sym s) (get_cut_same (insert m x n) x ∙ sym absent)
  | inr other ↦ get_cut_other (insert m x n) x y other ∙ get_put_other m x n y other
])

pub put_after_cut : (m : Nodes) (x : ℕ) (old : Node) → get m x ≡ Some old → insert (remove m x) x old ≡ m
put_after_cut m x old at = same_nodes (insert (remove m x) x old) m (λ y. elim (same_or_not y x) [
  | inl s ↦ subst (λ z. get (insert (remove m x) x old) z ≡ get m z) (sym s) (get_put_same (remove m x) x old ∙ sym at)
  | inr other ↦ get_put_other (remove m x) x old y other ∙ get_cut_other m x y other
])

-- WHAT IS LEGAL AGAIN
-- the old node, after another was put in its place
pub legal_put_back : (m : Nodes) (x : ℕ) (n old : Node) → WellFormed m → LegalPut m x n → get m x ≡ Some old → LegalPut (insert m x n) x old
legal_put_back m x n old form legal at = record {
  kind = λ k e. ap (λ (n : Node). n.kind) (one_node (insert m x n) x k n e (get_put_same m x n)) ∙ sym (legal.kind old at);
  parent = folder_put m x n old.place.parent.0 legal.kind (form.parents x old at);
  free = λ y k e same. elim (after_put m x n y k e) [
    | inl (s, is) ↦ s
    | inr (other, before) ↦ form.places y x k old before at same
  ];
  no_cycle = λ u. elim (under_before_put m x n x old.place.parent.0 u) [ inl v ↦ no_loop m x old form at v | inr v ↦ no_loop m x old form at v ];
}

-- a cut, after a node was put where none was
pub legal_cut_back : (m : Nodes) (x : ℕ) (n : Node) → WellFormed m → x ≢ 0 → LegalPut m x n → get m x ≡ None → LegalCut (insert m x n) x
legal_cut_back m x n form some legal absent =
    let no_folder : IsFolder m x → ⊥ = λ folder. elim folder [ inl root ↦ some root | inr (k, e, is) ↦ not_both m x k absent e ] in record {
      there = (n, get_put_same m x n);
      empty = λ y k e child. elim (after_put m x n y k e) [
        | inl (s, is) ↦ legal.no_cycle (subst (λ p. IsUnder m p x) (sym (ap (λ (n : Node). n.place.parent.0) (sym is) ∙ child)) here)
        | inr (other, before) ↦ no_folder (subst (IsFolder m) child (form.parents y k before))
      ];
    }

-- the old node, after it was cut
pub legal_put_after_cut : (m : Nodes) (x : ℕ) (old : Node) → WellFormed m → get m x ≡ Some old → LegalPut (remove m x) x old
legal_put_after_cut m x old form at = record {
  kind = λ k e. absurd (not_both (remove m x) x k (get_cut_same m x) e);
  parent = folder_cut m x old.place.parent.0 (λ s. no_loop m x old form at (subst (λ p. IsUnder m p x) (sym s) here)) (form.parents x old at);
  free = λ y k e same. form.places y x k old (after_cut m x y k e).1 at same;
  no_cycle = λ u. no_loop m x old form at (under_before_cut m x x old.place.parent.0 u);
}
