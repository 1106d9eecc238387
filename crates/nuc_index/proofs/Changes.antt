-- Two changes of one identity as one.
use Rattle.std.proofs.Common.{◌≡◌, ◌≢◌, ℕ, Some, None, sym, subst, ◌∙◌, inl, inr}
use Rattle.std.specs.FinMap.{get, empty, get-empty, insert, remove}
use Rattle.std.specs.Ordering.{nat_cmp}
use Rattle.nuc_base.specs.Trees.{Nodes}
use Rattle.nuc_base.specs.declared.node.Node.{Node}
use Rattle.nuc_base.proofs.Maps.{same_or_not, same_nodes, not_both, get_put_same, get_put_other, get_cut_same, get_cut_other}

-- two trees that differ at x at most, and have the same there
same_but : (m k : Nodes) (x : ℕ) → get m x ≡ get k x → ((y : ℕ) → y ≢ x → get m y ≡ get k y) → m ≡ k
same_but m k x here others = same_nodes m k (λ y. elim (same_or_not y x) [ inl e ↦ subst (λ z. get m z ≡ get k z) (sym e) here | inr apart ↦ others y apart ])

module _ (m : Nodes) (x : ℕ) (n : Node) where
  pub put_of_cut : insert (remove m x) x n ≡ insert m x n
  put_of_cut = same_but _ _ x (get_put_same _ x n ∙ sym (get_put_same m x n))
      (λ y apart. get_put_other _ x n y apart ∙ get_cut_other m x y apart ∙ sym (get_put_other m x n y apart))

  pub cut_of_put : remove (insert m x n) x ≡ remove m x
  cut_of_put = same_but _ _ x (get_cut_same _ x ∙ sym (get_cut_same m x))
      (λ y apart. get_cut_other _ x y apart ∙ get_put_other m x n y apart ∙ sym (get_cut_other m x y apart))

  pub cut_of_new : get m x ≡ None → remove (insert m x n) x ≡ m
  cut_of_new none = same_but _ _ x (get_cut_same _ x ∙ sym none) (λ y apart. get_cut_other _ x y apart ∙ get_put_other m x n y apart)

pub nowhere : (x : ℕ) (n : Node) → ¬ (get {R = nat_cmp} empty x ≡ Some n)
nowhere x n h = not_both empty x n (get-empty nat_cmp x) h
