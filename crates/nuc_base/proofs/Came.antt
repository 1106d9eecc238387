-- Who stands in a tree in which an identity got another number.
use Rattle.std.proofs.Common.{◌≡◌, ◌≢◌, ℕ, cond, Option, Some, None, option_map, refl, sym, ap, subst, ◌∙◌, inl, inr}
use Rattle.std.proofs.lemmas.Bool.Decides.{eqb_tells}
use Rattle.std.specs.FinMap.{get}
use Rattle.nuc_base.specs.Renamed.{with_parent, child_renamed, IsRenamed}
use Rattle.nuc_base.specs.Trees.{Nodes}
use Rattle.nuc_base.specs.declared.node.Node.{Node}
use Rattle.nuc_base.proofs.Maps.{same_or_not, same_nodes, one_node, not_both}

renamed_child : (y x : ℕ) (n : Node) → n.place.parent.0 ≡ y → child_renamed y x n ≡ with_parent x n
renamed_child y x n e = elim (eqb_tells n.place.parent.0 y) [
  | inl (t, s) ↦ ap (λ b. cond b (with_parent x n) n) t
  | inr (t, apart) ↦ absurd (apart e)
]

renamed_other : (y x : ℕ) (n : Node) → n.place.parent.0 ≢ y → child_renamed y x n ≡ n
renamed_other y x n apart = elim (eqb_tells n.place.parent.0 y) [
  | inl (t, s) ↦ absurd (apart s)
  | inr (t, other) ↦ ap (λ b. cond b (with_parent x n) n) t
]

-- there is one such tree
pub renamed_unique : (m : Nodes) (y x : ℕ) (node : Node) (k h : Nodes) → IsRenamed m y x node k → IsRenamed m y x node h → k ≡ h
renamed_unique m y x node k h is too = same_nodes k h at
  where
    at : (w : ℕ) → get k w ≡ get h w
    at w = elim (same_or_not w x) [
      | inl s ↦ subst (λ z. get k z ≡ get h z) (sym s) (is.came ∙ sym too.came)
      | inr other ↦ elim (same_or_not w y) [
        | inl s ↦ subst (λ z. get k z ≡ get h z) (sym s) (is.gone ∙ sym too.gone)
        | inr apart ↦ is.others w other apart ∙ sym (too.others w other apart)
      ]
    ]

-- who stands in the new tree: the renamed one, one that stood there and wasn't its child, or a child of it
pub data Came (m : Nodes) (y x : ℕ) (node : Node) (w : ℕ) (g : Node) : Type 0 where
  renamed : w ≡ x → g ≡ node → Came m y x node w g
  stood : w ≢ x → w ≢ y → get m w ≡ Some g → g.place.parent.0 ≢ y → Came m y x node w g
  child : (h : Node) → w ≢ x → w ≢ y → get m w ≡ Some h → h.place.parent.0 ≡ y → g ≡ with_parent x h → Came m y x node w g

module _ (m : Nodes) (y x : ℕ) (node : Node) (k : Nodes) (is : IsRenamed m y x node k) where
  pub came_from : (w : ℕ) (g : Node) → get k w ≡ Some g → Came m y x node w g
  came_from w g at = elim (same_or_not w x) [
    | inl s ↦ renamed s (one_node k x g node (subst (λ z. get k z ≡ Some g) s at) is.came)
    | inr other ↦ elim (same_or_not w y) [
      | inl s ↦ absurd (not_both k y g is.gone (subst (λ z. get k z ≡ Some g) s at))
      | inr apart ↦ by other apart (get m w) refl
    ]
  ]
    where
      old : (h : Node) → w ≢ x → w ≢ y → get m w ≡ Some h → child_renamed y x h ≡ g → Came m y x node w g
      old h other apart was now = elim (same_or_not h.place.parent.0 y) [
        | inl e ↦ child h other apart was e (sym now ∙ renamed_child y x h e)
        | inr off ↦
            let same : h ≡ g = sym (renamed_other y x h off) ∙ now in
            stood other apart (was ∙ ap Some same) (subst (λ (r : Node). r.place.parent.0 ≢ y) same off)
      ]

      by : w ≢ x → w ≢ y → (o : Option Node) → get m w ≡ o → Came m y x node w g
      by other apart None gone = absurd (not_both k w g (is.others w other apart ∙ ap (option_map (child_renamed y x)) gone) at)
      by other apart (Some h) was =
          old h other apart was (one_node k w (child_renamed y x h) g (is.others w other apart ∙ ap (option_map (child_renamed y x)) was) at)

  -- a former child of the renamed one stands below it still
  pub renamed_get_child : (w : ℕ) (h : Node) → w ≢ x → w ≢ y → get m w ≡ Some h → h.place.parent.0 ≡ y → get k w ≡ Some (with_parent x h)
  renamed_get_child w h other apart at e = is.others w other apart ∙ ap (option_map (child_renamed y x)) at ∙ ap Some (renamed_child y x h e)

  -- any other stands as it stood
  pub renamed_get_other : (w : ℕ) (h : Node) → w ≢ x → w ≢ y → get m w ≡ Some h → h.place.parent.0 ≢ y → get k w ≡ Some h
  renamed_get_other w h other apart at off = is.others w other apart ∙ ap (option_map (child_renamed y x)) at ∙ ap Some (renamed_other y x h off)
