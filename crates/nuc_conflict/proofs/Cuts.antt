-- Where nothing is due and no rule applies, nobody has a wish.
use Rattle.std.proofs.Common.{◌≡◌, ◌≢◌, ◌⊎◌, ℕ, Bool, None, Some, refl, sym, ap, subst, ◌∙◌, inl, inr}
use Rattle.std.specs.FinMap.{get}
use Rattle.nuc_base.specs.Trees.{Nodes, IsThere, NoChild, WellFormed}
use Rattle.nuc_base.specs.declared.node.Node.{Node}
use Rattle.nuc_base.proofs.Maps.{one_node, not_both}
use Rattle.nuc_base.proofs.Search.{no_lowest}
use Rattle.nuc_class.specs.Wishes.{AllEqual, IsWish}
use Rattle.nuc_class.specs.declared.wishes.Wish.{Wish}
use Rattle.nuc_class.specs.declared.wishes.Wish.TheVariants as wish
use Rattle.nuc_conflict.specs.Laws.{MendOrEqual}
use Rattle.nuc_conflict.specs.Remedies.{IsUpClear}
use Rattle.nuc_conflict.proofs.Calm.{going_local_parts, going_remote_parts, not_only_synced}
use Rattle.nuc_conflict.proofs.Downs.{no_down, wish_of}
use Rattle.nuc_conflict.proofs.Stuck.{Stuck, not_cut_down, not_cut_up, not_forget}
use Rattle.nuc_conflict.proofs.Ups.{no_up}

-- a parent that isn't the root stands in the tree
parent_there : (m : Nodes) (x y : ℕ) (n : Node) → WellFormed m → x ≢ 0 → get m y ≡ Some n → n.place.parent.0 ≡ x → IsThere m x
parent_there m x y n form off at child = elim (form.parents y n at) [
  | inl root ↦ absurd (off (sym child ∙ root))
  | inr (p, there, is) ↦ (p, subst (λ z. get m z ≡ Some p) child there)
]

module _ (same : ℕ → ℕ → Bool) (r l s : Nodes) (st : Stuck same r l s) (clear_up : IsUpClear same r l s) where
  -- x has a wish
  abbrev Wanting : ℕ → Type 0
  Wanting x = (w : Wish) × IsWish same r l s x w × (w ≢ wish.Nothing)

  equal_by : (x : ℕ) → ¬ (Wanting x) → (w : Wish) → IsWish same r l s x w → AllEqual (get r x) (get l x) (get s x)
  equal_by x none wish.Split wished = absurd (st.split x wished)
  equal_by x none wish.Down wished = absurd (no_down same r l s st x wished)
  equal_by x none wish.Up wished = absurd (no_up same r l s st clear_up x wished)
  equal_by x none wish.CutDown wished = absurd (none (wish.CutDown, wished, λ e. cc))
  equal_by x none wish.CutUp wished = absurd (none (wish.CutUp, wished, λ e. cc))
  equal_by x none wish.Forget wished = absurd (none (wish.Forget, wished, λ e. cc))
  equal_by x none wish.Nothing wished = wished

  equal_of : (x : ℕ) → ¬ (Wanting x) → AllEqual (get r x) (get l x) (get s x)
  equal_of x none = let w = wish_of same r l s st x in equal_by x none w.0 w.1

  wanting_there : (x : ℕ) (w : Wish) → IsWish same r l s x w → w ≢ wish.Nothing → IsThere s x
  wanting_there x wish.Split wished some = absurd (st.split x wished)
  wanting_there x wish.Down wished some = absurd (no_down same r l s st x wished)
  wanting_there x wish.Up wished some = absurd (no_up same r l s st clear_up x wished)
  wanting_there x wish.CutDown wished some = let parts = going_local_parts same r l s x wished in (parts.1, parts.3)
  wanting_there x wish.CutUp wished some = let parts = going_remote_parts same r l s x wished in (parts.1, parts.3)
  wanting_there x wish.Forget wished some = (not_only_synced (get r x) (get l x) (get s x) wished).2
  wanting_there x wish.Nothing wished some = absurd (some refl)

  module _ (x : ℕ) (off : x ≢ 0) (lowest : (y : ℕ) (k : Node) → get s y ≡ Some k → k.place.parent.0 ≡ x → ¬ (Wanting y)) where
    -- a child of x in Synced stands in all trees, so x stands in Remote and in Local
    child_in_synced : (y : ℕ) (k : Node) → get s y ≡ Some k → k.place.parent.0 ≡ x → IsThere r x × IsThere l x
    child_in_synced y k at child =
        let equal = equal_of y (lowest y k at child) in (
          parent_there r x y k st.remote off (equal.0 ∙ equal.1 ∙ at) child,
          parent_there l x y k st.local off (equal.1 ∙ at) child,
        )

    child_in_local : get r x ≡ None → (y : ℕ) (k : Node) → get l y ≡ Some k → k.place.parent.0 ≡ x → (w : Wish) → ¬ (IsWish same r l s y w)
    child_in_local gone y k at child wish.Split wished = st.split y wished
    child_in_local gone y k at child wish.Down wished = no_down same r l s st y wished
    child_in_local gone y k at child wish.Up wished = no_up same r l s st clear_up y wished
    child_in_local gone y k at child wish.CutDown wished =
        let parts = going_local_parts same r l s y wished in
        let one : parts.1 ≡ k = one_node l y parts.1 k parts.2 at in
        lowest y parts.1 parts.3 (ap (λ (h : Node). h.place.parent.0) one ∙ child) (wish.CutDown, wished, λ e. cc)
    child_in_local gone y k at child wish.CutUp wished = not_both l y k (going_remote_parts same r l s y wished).0 at
    child_in_local gone y k at child wish.Forget wished = not_both l y k (not_only_synced (get r y) (get l y) (get s y) wished).1 at
    child_in_local gone y k at child wish.Nothing wished =
        let there = (child_in_synced y k (sym wished.1 ∙ at) child).0 in not_both r x there.0 gone there.1

    child_in_remote : get l x ≡ None → (y : ℕ) (k : Node) → get r y ≡ Some k → k.place.parent.0 ≡ x → (w : Wish) → ¬ (IsWish same r l s y w)
    child_in_remote gone y k at child wish.Split wished = st.split y wished
    child_in_remote gone y k at child wish.Down wished = no_down same r l s st y wished
    child_in_remote gone y k at child wish.Up wished = no_up same r l s st clear_up y wished
    child_in_remote gone y k at child wish.CutDown wished = not_both r y k (going_local_parts same r l s y wished).0 at
    child_in_remote gone y k at child wish.CutUp wished =
        let parts = going_remote_parts same r l s y wished in
        let one : parts.1 ≡ k = one_node r y parts.1 k parts.2 at in
        lowest y parts.1 parts.3 (ap (λ (h : Node). h.place.parent.0) one ∙ child) (wish.CutUp, wished, λ e. cc)
    child_in_remote gone y k at child wish.Forget wished = not_both r y k (not_only_synced (get r y) (get l y) (get s y) wished).0 at
    child_in_remote gone y k at child wish.Nothing wished =
        let there = (child_in_synced y k (sym wished.1 ∙ sym wished.0 ∙ at) child).1 in not_both l x there.0 gone there.1

    empty_in_synced : (get r x ≡ None) ⊎ (get l x ≡ None) → NoChild s x
    empty_in_synced (inl gone) y k at child = let there = (child_in_synced y k at child).0 in not_both r x there.0 gone there.1
    empty_in_synced (inr gone) y k at child = let there = (child_in_synced y k at child).1 in not_both l x there.0 gone there.1

    step_cut : (w : Wish) → IsWish same r l s x w → w ≢ wish.Nothing → ⊥
    step_cut wish.Split wished some = st.split x wished
    step_cut wish.Down wished some = no_down same r l s st x wished
    step_cut wish.Up wished some = no_up same r l s st clear_up x wished
    step_cut wish.CutDown wished some =
        let parts = going_local_parts same r l s x wished in
        not_cut_down same r l s st x wished
        (record {
          there = (parts.1, parts.2);
          empty = λ y k at child. let w = wish_of same r l s st y in child_in_local parts.0 y k at child w.0 w.1;
        })
        (record { there = (parts.1, parts.3); empty = empty_in_synced (inl parts.0) })
    step_cut wish.CutUp wished some =
        let parts = going_remote_parts same r l s x wished in
        not_cut_up same r l s st x wished
        (record {
          there = (parts.1, parts.2);
          empty = λ y k at child. let w = wish_of same r l s st y in child_in_remote parts.0 y k at child w.0 w.1;
        })
        (record { there = (parts.1, parts.3); empty = empty_in_synced (inr parts.0) })
    step_cut wish.Forget wished some =
        let parts = not_only_synced (get r x) (get l x) (get s x) wished in
        not_forget same r l s st x wished (record { there = parts.2; empty = empty_in_synced (inl parts.0) })
    step_cut wish.Nothing wished some = some refl

  -- nobody has a wish
  nobody : (x : ℕ) → ¬ (Wanting x)
  nobody x (w, wished, some) =
      let there = wanting_there x w wished some in
      no_lowest s Wanting st.synced
      (λ y n at (v, wish, other) lowest. step_cut y (λ root. not_both s 0 n st.synced.no_root (subst (λ z. get s z ≡ Some n) root at)) lowest v wish other)
      x there.0 there.1 (w, wished, some)

  pub all_equal : (x : ℕ) → AllEqual (get r x) (get l x) (get s x)
  all_equal x = equal_of x (nobody x)

pub mend_or_equal : MendOrEqual
mend_or_equal same r l s fit nothing none x =
    all_equal same r l s (record {
      remote = fit.remote;
      local = fit.local;
      synced = fit.synced;
      remote_local = fit.remote_local;
      remote_synced = fit.remote_synced;
      local_synced = fit.local_synced;
      nothing = nothing;
      split = none.split;
      down = none.down;
    }) none.up x
