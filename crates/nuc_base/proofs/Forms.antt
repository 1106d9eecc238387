-- Legal changes keep a tree well formed.
use Rattle.std.proofs.Common.{◌≡◌, ◌≢◌, ◌<◌, ℕ, Some, sym, subst, ◌∙◌, inl, inr, arith}
use Rattle.std.specs.FinMap.{get, insert, remove, empty, get-empty}
use Rattle.std.specs.Ordering.{nat_cmp}
use Rattle.nuc_base.specs.Kinds.{FitsKind}
use Rattle.nuc_base.specs.Legal.{SameKind, LegalPut, LegalCut}
use Rattle.nuc_base.specs.SamePlace.{SamePlace, same_place-sym}
use Rattle.nuc_base.specs.Trees.{Nodes, IsFolder, IsUnder, WellFormed}
use Rattle.nuc_base.specs.Trees.Under.{here, up}
use Rattle.nuc_base.specs.declared.node.Node.{Node}
use Rattle.nuc_base.proofs.Maps.{same_or_not, not_both, get_put_same, get_put_other, get_cut_same, get_cut_other, after_put, after_cut}
use Rattle.nuc_base.proofs.Chains.{under_trans, under_put, under_before_put, under_cut, under_before_cut, under_childless}

-- the tree of nothing but the root
pub empty_form : WellFormed empty
empty_form = record {
  no_root = get-empty nat_cmp 0;
  parents = λ x n e. absurd (not_both empty x n (get-empty nat_cmp x) e);
  rooted = λ x n e. absurd (not_both empty x n (get-empty nat_cmp x) e);
  places = λ x y n k e f s. absurd (not_both empty x n (get-empty nat_cmp x) e);
  fits = λ x n e. absurd (not_both empty x n (get-empty nat_cmp x) e);
}

pub folder_put : (m : Nodes) (x : ℕ) (node : Node) (p : ℕ) → SameKind m x node.kind → IsFolder m p → IsFolder (insert m x node) p
folder_put m x node p kind (inl root) = inl root
folder_put m x node p kind (inr (n, e, folder)) = elim (same_or_not p x) [
  | inl s ↦ inr (node, subst (λ q. get (insert m x node) q ≡ Some node) (sym s) (get_put_same m x node), sym (kind n (subst (λ q. get m q ≡ Some n) s e)) ∙ folder)
  | inr apart ↦ inr (n, get_put_other m x node p apart ∙ e, folder)
]

pub folder_cut : (m : Nodes) (x p : ℕ) → p ≢ x → IsFolder m p → IsFolder (remove m x) p
folder_cut m x p apart (inl root) = inl root
folder_cut m x p apart (inr (n, e, folder)) = inr (n, get_cut_other m x p apart ∙ e, folder)

pub folder_rooted : (m : Nodes) (p : ℕ) → WellFormed m → IsFolder m p → IsUnder m p 0
folder_rooted m p form (inl root) = rw root here
folder_rooted m p form (inr (n, e, folder)) = form.rooted p n e

module _ (m : Nodes) (x : ℕ) (node : Node) (form : WellFormed m) (legal : LegalPut m x node) where
  new_rooted : IsUnder (insert m x node) x 0
  new_rooted =
      let p : ℕ = node.place.parent.0 in
      let u : IsUnder (insert m x node) p 0 = elim (under_put m x node 0 p (folder_rooted m p form legal.parent)) [
        | inl u ↦ u
        | inr u ↦ elim (under_before_put m x node x p u) [ inl v ↦ absurd (legal.no_cycle v) | inr v ↦ absurd (legal.no_cycle v) ]
      ] in
      up x node (get_put_same m x node) u

  put_rooted : (y : ℕ) (n : Node) → get m y ≡ Some n → IsUnder (insert m x node) y 0
  put_rooted y n e = elim (under_put m x node 0 y (form.rooted y n e)) [
    | inl u ↦ u
    | inr u ↦ under_trans (insert m x node) x y 0 u new_rooted
  ]

  put_places : (y z : ℕ) (n k : Node) → get (insert m x node) y ≡ Some n → get (insert m x node) z ≡ Some k → SamePlace n.place k.place → y ≡ z
  put_places y z n k e f s = elim (after_put m x node y n e) [
    | inl (a, p) ↦ elim (after_put m x node z k f) [
      | inl (b, q) ↦ a ∙ sym b
      | inr (b, g) ↦ a ∙ sym (legal.free z k g (same_place-sym _ _ (subst (λ (r : Node). SamePlace r.place k.place) p s)))
    ]
    | inr (a, h) ↦ elim (after_put m x node z k f) [
      | inl (b, q) ↦ legal.free y n h (subst (λ (r : Node). SamePlace n.place r.place) q s) ∙ sym b
      | inr (b, g) ↦ form.places y z n k h g s
    ]
  ]

  pub put_keeps : 0 < x → FitsKind node → WellFormed (insert m x node)
  put_keeps above fits = record {
    no_root = get_put_other m x node 0 (λ e. absurd (omega arith)) ∙ form.no_root;
    parents = λ y n e. elim (after_put m x node y n e) [
      | inl (s, p) ↦ folder_put m x node n.place.parent.0 legal.kind (subst (λ (r : Node). IsFolder m r.place.parent.0) (sym p) legal.parent)
      | inr (apart, h) ↦ folder_put m x node n.place.parent.0 legal.kind (form.parents y n h)
    ];
    rooted = λ y n e. elim (after_put m x node y n e) [
      | inl (s, p) ↦ rw s new_rooted
      | inr (apart, h) ↦ put_rooted y n h
    ];
    places = put_places;
    fits = λ y n e. elim (after_put m x node y n e) [
      | inl (s, p) ↦ subst FitsKind (sym p) fits
      | inr (apart, h) ↦ form.fits y n h
    ];
  }

pub cut_keeps : (m : Nodes) (x : ℕ) → WellFormed m → LegalCut m x → WellFormed (remove m x)
cut_keeps m x form legal = record {
  no_root = elim (same_or_not 0 x) [
    | inl s ↦ rw s (get_cut_same m x)
    | inr apart ↦ get_cut_other m x 0 apart ∙ form.no_root
  ];
  parents = λ y n e. let old = after_cut m x y n e in folder_cut m x n.place.parent.0 (legal.empty y n old.1) (form.parents y n old.1);
  rooted = λ y n e. let old = after_cut m x y n e in elim (under_cut m x 0 y (form.rooted y n old.1)) [
    | inl u ↦ u
    | inr u ↦ absurd (old.0 (under_childless m x y legal.empty (under_before_cut m x x y u)))
  ];
  places = λ y z n k e f s. form.places y z n k (after_cut m x y n e).1 (after_cut m x z k f).1 s;
  fits = λ y n e. form.fits y n (after_cut m x y n e).1;
}
