-- Where nothing is due and no rule applies, nobody wishes Up.
use Rattle.std.proofs.Common.{◌≡◌, ℕ, Bool, Option, None, Some, refl, sym, subst, ◌∙◌}
use Rattle.std.specs.FinMap.{get}
use Rattle.nuc_base.specs.Legal.{LegalPut}
use Rattle.nuc_base.specs.SamePlace.{same_place-refl}
use Rattle.nuc_base.specs.Trees.{Nodes, IsUnder}
use Rattle.nuc_base.specs.Trees.Under.{here, up}
use Rattle.nuc_base.specs.declared.node.Node.{Node}
use Rattle.nuc_base.proofs.Alike.{legal_alike, one_kind-sym}
use Rattle.nuc_base.proofs.Depths.{above_first}
use Rattle.nuc_base.proofs.Maps.{not_both}
use Rattle.nuc_base.proofs.Search.{no_first}
use Rattle.nuc_class.specs.Going.{GoingLocal, Leaves}
use Rattle.nuc_class.specs.Wishes.{IsWish}
use Rattle.nuc_class.specs.declared.wishes.Wish.{Wish}
use Rattle.nuc_class.specs.declared.wishes.Wish.TheVariants as wish
use Rattle.nuc_class.proofs.Rows.{one_wish}
use Rattle.nuc_class.proofs.Walk.{going-child}
use Rattle.nuc_conflict.specs.Remedies.{IsClearUp, IsUpClear}
use Rattle.nuc_conflict.specs.Topmost.{IsTopmost}
use Rattle.nuc_conflict.proofs.Calm.{going_local_parts, going_remote_parts, not_only_synced, up_values}
use Rattle.nuc_conflict.proofs.Downs.{no_down, wish_of}
use Rattle.nuc_conflict.proofs.Search.{up_there}
use Rattle.nuc_conflict.proofs.Stuck.{Stuck, not_up}

module _ (same : ℕ → ℕ → Bool) (r l s : Nodes) (st : Stuck same r l s) (clear_up : IsUpClear same r l s) where
  -- what stands in Remote and in Local is in Synced as it is in Remote
  unchanged_by : (x : ℕ) (n own : Node) → get r x ≡ Some n → get l x ≡ Some own → (w : Wish) → IsWish same r l s x w → get s x ≡ Some n
  unchanged_by x n own at there wish.Split wished = absurd (st.split x wished)
  unchanged_by x n own at there wish.Down wished = absurd (no_down same r l s st x wished)
  unchanged_by x n own at there wish.Up wished = (up_values _ (get r x) (get l x) (get s x) n at wished).0
  unchanged_by x n own at there wish.CutDown wished = absurd (not_both r x n (going_local_parts same r l s x wished).0 at)
  unchanged_by x n own at there wish.CutUp wished = absurd (not_both l x own (going_remote_parts same r l s x wished).0 there)
  unchanged_by x n own at there wish.Forget wished = absurd (not_both r x n (not_only_synced (get r x) (get l x) (get s x) wished).0 at)
  unchanged_by x n own at there wish.Nothing wished = sym wished.1 ∙ sym wished.0 ∙ at

  unchanged : (x : ℕ) (n own : Node) → get r x ≡ Some n → get l x ≡ Some own → get s x ≡ Some n
  unchanged x n own at there = let w = wish_of same r l s st x in unchanged_by x n own at there w.0 w.1

  -- so nothing of Local leaves its folder
  no_leave : (x : ℕ) (own : Node) → get l x ≡ Some own → ¬ (Leaves (get r x) (get s x))
  no_leave x own there = by (get r x) refl
    where
      by : (o : Option Node) → get r x ≡ o → ¬ (Leaves (get r x) (get s x))
      by None gone leaves = subst (λ o. Leaves o (get s x)) gone leaves
      by (Some n) at leaves =
          let synced : get s x ≡ Some n = unchanged x n own at there in
          let moved : Leaves (Some n) (Some n) = subst (λ o. Leaves (Some n) o) synced (subst (λ o. Leaves o (get s x)) at leaves) in
          moved refl

  -- and what is below a folder that goes in Local, goes
  going_below : (a x : ℕ) → IsUnder l x a → GoingLocal r l s a → GoingLocal r l s x
  going_below a x here cut = cut
  going_below a x (up y n at under) cut =
      going-child r l s _ n.place.parent.0 y n (going_below a n.place.parent.0 under cut) at refl (no_leave y n at)

  module _ (x : ℕ) (n : Node) (at : get l x ≡ Some n) (top : IsTopmost same r l s l wish.Up x) where
    not_going : ¬ (GoingLocal r l s x)
    not_going cut = absurd (let e : wish.Up ≡ wish.CutDown = one_wish same r l s x wish.Up wish.CutDown top.wished cut in cc)

    equal_by : (a : ℕ) (h : Node) → IsUnder l n.place.parent.0 a → get l a ≡ Some h → (w : Wish) → IsWish same r l s a w
        → (get r a ≡ Some h) × (get s a ≡ Some h)
    equal_by a h under there wish.Split wished = absurd (st.split a wished)
    equal_by a h under there wish.Down wished = absurd (no_down same r l s st a wished)
    equal_by a h under there wish.Up wished = absurd (above_first l a x st.local (n, at, under) (top.first a wished))
    equal_by a h under there wish.CutDown wished = absurd (not_going (going_below a x (up x n at under) wished))
    equal_by a h under there wish.CutUp wished = absurd (not_both l a h (going_remote_parts same r l s a wished).0 there)
    equal_by a h under there wish.Forget wished = absurd (not_both l a h (not_only_synced (get r a) (get l a) (get s a) wished).1 there)
    equal_by a h under there wish.Nothing wished = (wished.0 ∙ there, sym wished.1 ∙ there)

    -- all that is above x has equal values
    equal_above : (a : ℕ) (h : Node) → IsUnder l n.place.parent.0 a → get l a ≡ Some h → (get r a ≡ Some h) × (get s a ≡ Some h)
    equal_above a h under there = let w = wish_of same r l s st a in equal_by a h under there w.0 w.1

    clear : IsClearUp r s x n
    clear = clear_up x n top at

    up_remote : LegalPut r x n
    up_remote = legal_alike l r x n n st.local st.remote (one_kind-sym r l st.remote_local) at
        (λ a h under there. (h, (equal_above a h under there).0, refl)) (same_place-refl n.place) refl clear.remote

    up_synced : LegalPut s x n
    up_synced = legal_alike l s x n n st.local st.synced st.local_synced at
        (λ a h under there. (h, (equal_above a h under there).1, refl)) (same_place-refl n.place) refl clear.synced

    step_up : ⊥
    step_up = not_up same r l s st x n at top.wished up_remote up_synced

  pub no_up : (x : ℕ) → ¬ (IsWish same r l s x wish.Up)
  no_up x = no_first l (λ y. IsWish same r l s y wish.Up) st.local (λ y wished. up_there same r l s y wished)
      (λ y wished first. let there = up_there same r l s y wished in step_up y there.0 there.1 (record { wished = wished; first = first })) x
