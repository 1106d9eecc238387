-- What stands at an identity after a change of the map.
use Rattle.std.proofs.Common.{◌≡◌, ◌≢◌, ◌⊎◌, ◌==◌, ℕ, true, false, cond, Some, None, refl, sym, ap, subst, ◌∙◌, inl, inr}
use Rattle.std.proofs.lemmas.Bool.Decides.{eqb_tells}
use Rattle.std.specs.Cmp.{unsigned_tied}
use Rattle.std.specs.FinMap.{get, insert, remove, get-insert, get-remove, same_map, nat_cmp-IsAntisymmetric}
use Rattle.std.proofs.lemmas.Cmp.{nat_cmp_total}
use Rattle.nuc_base.specs.Trees.{Nodes}
use Rattle.nuc_base.specs.declared.node.Node.{Node}

pub same_or_not : (x y : ℕ) → (x ≡ y) ⊎ (x ≢ y)
same_or_not x y = elim (eqb_tells x y) [ inl (t, e) ↦ inl e | inr (t, e) ↦ inr e ]

yes : (x : ℕ) → (x == x) ≡ true
yes x = elim (eqb_tells x x) [ inl (t, e) ↦ t | inr (t, e) ↦ absurd (e refl) ]

no : (x y : ℕ) → x ≢ y → (x == y) ≡ false
no x y apart = elim (eqb_tells x y) [ inl (t, e) ↦ absurd (apart e) | inr (t, e) ↦ t ]

pub get_put_same : (m : Nodes) (x : ℕ) (n : Node) → get (insert m x n) x ≡ Some n
get_put_same m x n = get-insert nat_cmp_total m x n x ∙ ap (λ b. cond b (Some n) (get m x)) (unsigned_tied x x ∙ yes x)

pub get_put_other : (m : Nodes) (x : ℕ) (n : Node) (y : ℕ) → y ≢ x → get (insert m x n) y ≡ get m y
get_put_other m x n y apart = get-insert nat_cmp_total m x n y ∙ ap (λ b. cond b (Some n) (get m y)) (unsigned_tied y x ∙ no y x apart)

pub get_cut_same : (m : Nodes) (x : ℕ) → get (remove m x) x ≡ None
get_cut_same m x = get-remove nat_cmp_total m x x ∙ ap (λ b. cond b None (get m x)) (unsigned_tied x x ∙ yes x)

pub get_cut_other : (m : Nodes) (x y : ℕ) → y ≢ x → get (remove m x) y ≡ get m y
get_cut_other m x y apart = get-remove nat_cmp_total m x y ∙ ap (λ b. cond b None (get m y)) (unsigned_tied y x ∙ no y x apart)

-- two trees with the same node at each identity are one
pub same_nodes : (m k : Nodes) → ((x : ℕ) → get m x ≡ get k x) → m ≡ k
same_nodes m k same = same_map nat_cmp_total nat_cmp-IsAntisymmetric m k same

pub one_node : (m : Nodes) (x : ℕ) (n k : Node) → get m x ≡ Some n → get m x ≡ Some k → n ≡ k
one_node m x n k e f = cc

pub not_both : (m : Nodes) (x : ℕ) (n : Node) → get m x ≡ None → get m x ≡ Some n → ⊥
not_both m x n e f = cc

-- who stands at y after a put
pub after_put : (m : Nodes) (x : ℕ) (node : Node) (y : ℕ) (n : Node) → get (insert m x node) y ≡ Some n
    → ((y ≡ x) × (n ≡ node)) ⊎ ((y ≢ x) × (get m y ≡ Some n))
after_put m x node y n e = elim (same_or_not y x) [
  | inl s ↦ inl (s, one_node (insert m x node) x n node (subst (λ z. get (insert m x node) z ≡ Some n) s e) (get_put_same m x node))
  | inr apart ↦ inr (apart, sym (get_put_other m x node y apart) ∙ e)
]

-- who stands at y after a cut
pub after_cut : (m : Nodes) (x y : ℕ) (n : Node) → get (remove m x) y ≡ Some n → (y ≢ x) × (get m y ≡ Some n)
after_cut m x y n e = elim (same_or_not y x) [
  | inl s ↦ absurd (not_both (remove m x) x n (get_cut_same m x) (subst (λ z. get (remove m x) z ≡ Some n) s e))
  | inr apart ↦ (apart, sym (get_cut_other m x y apart) ∙ e)
]
