-- A split: x leaves Local and Synced, and z, which stood nowhere, gets a place in Local that nobody has.
use Rattle.std.proofs.Common.{◌≡◌, ◌≢◌, ◌⊎◌, ◌<◌, ◌≤◌, ◌+◌, ℕ, Bool, true, false, Option, None, Some, refl, sym, ap, subst, ◌∙◌, inl, inr, arith}
use Rattle.std.specs.FinMap.{get}
use Rattle.std.proofs.lemmas.Option.{same_Some}
use Rattle.nuc_base.specs.SamePlace.{SamePlace, same_place-sym}
use Rattle.nuc_base.specs.Trees.{Nodes, IsVacant, NoChild}
use Rattle.nuc_base.specs.declared.node.Node.{Node}
use Rattle.nuc_base.proofs.Maps.{one_node, not_both, same_or_not}
use Rattle.nuc_class.specs.Split.{needs_split}
use Rattle.nuc_measure.specs.Cost.{cost}
use Rattle.nuc_measure.specs.Differing.{differs}
use Rattle.nuc_measure.specs.Marks.{IsMarked}
use Rattle.nuc_measure.specs.Pays.{NoMoreFlies}
use Rattle.nuc_measure.specs.Potential.{mark, marks, points}
use Rattle.nuc_measure.proofs.Marking.{Mark}
use Rattle.nuc_measure.proofs.Points.{kept_le, mark_absent, mark_le, points_at_most, points_differ}
use Rattle.nuc_measure.proofs.Costs.{no_split_of_one}
use Rattle.nuc_measure.proofs.Steps.{cost_as, not_differs}

-- the trees before and after
pub record SplitsOff (r l s nl ns : Nodes) (x z : ℕ) (own copy : Node) : Type 0 where
  pub apart : x ≢ z
  pub there : get l x ≡ Some own
  pub came : get nl z ≡ Some copy
  pub parent : copy.place.parent.0 ≡ own.place.parent.0
  pub gone : get nl x ≡ None
  pub gone_too : get ns x ≡ None
  pub new_r : get r z ≡ None
  pub new_l : get l z ≡ None
  pub new_s : get s z ≡ None
  pub local : (w : ℕ) → w ≢ x → w ≢ z → get nl w ≡ get l w
  pub synced : (w : ℕ) → w ≢ x → get ns w ≡ get s w
  pub free_r : IsVacant r copy.place
  pub free_s : IsVacant s copy.place
  pub leaf_r : NoChild r x
  pub leaf_l : NoChild l x
  pub new_leaf_r : NoChild r z

module _ (r l s nl ns : Nodes) (x z : ℕ) (own copy : Node) (split : SplitsOff r l s nl ns x z own copy) where
  -- who stands in the new Local or Synced stood there, or is the copy
  in_local : (w : ℕ) (h : Node) → get nl w ≡ Some h → (h ≡ copy) ⊎ (get l w ≡ Some h)
  in_local w h at = elim (same_or_not w x) [
    | inl e ↦ absurd (not_both nl x h split.gone (subst (λ q. get nl q ≡ Some h) e at))
    | inr e ↦ elim (same_or_not w z) [
      | inl b ↦ inl (one_node nl z h copy (subst (λ q. get nl q ≡ Some h) b at) split.came)
      | inr b ↦ inr (sym (split.local w e b) ∙ at)
    ]
  ]

  in_synced : (w : ℕ) (h : Node) → get ns w ≡ Some h → get s w ≡ Some h
  in_synced w h at = elim (same_or_not w x) [
    | inl e ↦ absurd (not_both ns x h split.gone_too (subst (λ q. get ns q ≡ Some h) e at))
    | inr e ↦ sym (split.synced w e) ∙ at
  ]

  -- in Remote, x too
  split_remote : (w : ℕ) → IsMarked r nl ns true w → IsMarked r l s true w
  split_remote w (n, at, mark) = (n, at, by mark)
    where
      held : (y : ℕ) (h : Node) → SamePlace h.place n.place → y ≢ w → (h ≡ copy) ⊎ (get l y ≡ Some h) → Mark l s true w n
      held y h near other (inl is) = absurd (split.free_r w n at (same_place-sym _ _ (subst (λ (t : Node). SamePlace t.place n.place) is near)))
      held y h near other (inr was) = inl (y, h, was, near, other)

      by : Mark nl ns true w n → Mark l s true w n
      by (inl (y, h, there, near, other)) = held y h near other (in_local y h there)
      by (inr (inl (y, h, there, near, other))) = inr (inl (y, h, in_synced y h there, near, other))
      by (inr (inr (counts, (below, gone_l, gone_s)))) =
          let off_x : n.place.parent.0 ≢ x = split.leaf_r w n at in
          let off_z : n.place.parent.0 ≢ z = split.new_leaf_r w n at in
          inr (inr (counts, (below, sym (split.local n.place.parent.0 off_x off_z) ∙ gone_l, sym (split.synced n.place.parent.0 off_x) ∙ gone_s)))

  split_synced : (w : ℕ) → IsMarked ns r nl false w → IsMarked s r l false w
  split_synced w (n, at, mark) = (n, in_synced w n at, by mark)
    where
      held : (y : ℕ) (h : Node) → SamePlace h.place n.place → y ≢ w → (h ≡ copy) ⊎ (get l y ≡ Some h) → Mark r l false w n
      held y h near other (inl is) = absurd (split.free_s w n (in_synced w n at) (same_place-sym _ _ (subst (λ (t : Node). SamePlace t.place n.place) is near)))
      held y h near other (inr was) = inr (inl (y, h, was, near, other))

      by : Mark r nl false w n → Mark r l false w n
      by (inl some) = inl some
      by (inr (inl (y, h, there, near, other))) = held y h near other (in_local y h there)
      by (inr (inr (counts, gone))) = absurd (let clash : false ≡ true = counts in cc)

  -- in Local another than x and z keeps its mark, and z has at most x's
  split_local : (w : ℕ) → w ≢ x → w ≢ z → IsMarked nl r ns true w → IsMarked l r s true w
  split_local w off_x off_z (n, at, mark) = (n, was, by mark)
    where
      was : get l w ≡ Some n
      was = sym (split.local w off_x off_z) ∙ at

      by : Mark r ns true w n → Mark r s true w n
      by (inl some) = inl some
      by (inr (inl (y, h, there, near, other))) = inr (inl (y, h, in_synced y h there, near, other))
      by (inr (inr (counts, (below, gone_r, gone_s)))) =
          inr (inr (counts, (below, gone_r, sym (split.synced n.place.parent.0 (split.leaf_l w n was)) ∙ gone_s)))

  split_new : IsMarked nl r ns true z → IsMarked l r s true x
  split_new (n, at, mark) = (own, split.there, by (subst (λ (h : Node). Mark r ns true z h) (one_node nl z n copy at split.came) mark))
    where
      by : Mark r ns true z copy → Mark r s true x own
      by (inl (y, h, there, near, other)) = absurd (split.free_r y h there near)
      by (inr (inl (y, h, there, near, other))) = absurd (split.free_s y h (in_synced y h there) near)
      by (inr (inr (counts, (below, gone_r, gone_s)))) =
          let e : copy.place.parent.0 ≡ own.place.parent.0 = split.parent in
          inr (inr (
            counts,
            (
              λ q. below (e ∙ q),
              ap (get r) (sym e) ∙ gone_r,
              sym (split.synced own.place.parent.0 (split.leaf_l x own split.there)) ∙ (ap (get ns) (sym e) ∙ gone_s),
            ),
          ))

  module _ (same : ℕ → ℕ → Bool) (fly now : ℕ → Bool) (flies : NoMoreFlies fly now) (node : Node) (in_r : get r x ≡ Some node)
      (cut : needs_split same (Some node) (Some own) (get s x) ≡ true) where
    pub split_others : (w : ℕ) → w ≢ x → w ≢ z → points same now r nl ns w ≤ points same fly r l s w
    split_others w off_x off_z =
        let a = mark_le r l s r nl ns true w w (split_remote w) in
        let b = mark_le l r s nl r ns true w w (split_local w off_x off_z) in
        let c = mark_le s r l ns r nl false w w (split_synced w) in
        kept_le same fly now r l s r nl ns w refl (split.local w off_x off_z) (split.synced w off_x) (omega (arith, a, b, c)) (flies w)

    cost_before : (o : Option Node) → needs_split same (Some node) (Some own) o ≡ true → cost same (Some node) (Some own) o ≡ 3
    cost_before o e = rw e refl

    splits_differ : (o : Option Node) → needs_split same (Some node) (Some own) o ≡ true → differs (Some node) (Some own) o ≡ true
    splits_differ o e = not_differs (Some node) (Some own) o (λ (first, second).
        let is : node ≡ own = same_Some node own first in
        let fails : needs_split same (Some node) (Some own) o ≡ false = no_split_of_one same node own o (ap (λ (h : Node). h.ver.0) (sym is)) in
        let clash : true ≡ false = sym e ∙ fails in
        cc)

    before : points same fly r l s x ≡ 3 + marks r l s x
    before =
        let apart : differs (get r x) (get l x) (get s x) ≡ true = rw (in_r, split.there) (splits_differ (get s x) cut) in
        let is : cost same (get r x) (get l x) (get s x) ≡ 3 =
        cost_as same (get r x) (get l x) (get s x) (Some node) (Some own) (get s x) in_r split.there refl ∙ cost_before (get s x) cut in
        let whole : points same fly r l s x ≡ cost same (get r x) (get l x) (get s x) + marks r l s x = points_differ same fly r l s x apart in
        omega (arith, is, whole)

    after_x : points same now r nl ns x ≤ 1 + mark r l s true x
    after_x =
        let is : cost same (get r x) (get nl x) (get ns x) ≡ 1 = cost_as same (get r x) (get nl x) (get ns x) (Some node) None None in_r split.gone split.gone_too in
        let a = mark_le r l s r nl ns true x x (split_remote x) in
        let b : mark nl r ns true x ≡ 0 = mark_absent nl r ns true x split.gone in
        let c : mark ns r nl false x ≡ 0 = mark_absent ns r nl false x split.gone_too in
        points_at_most same now r nl ns x (1 + mark r l s true x) (omega arith) (omega (arith, is, a, b, c))

    after_z : points same now r nl ns z ≤ 1 + mark l r s true x
    after_z =
        let gone_z : get ns z ≡ None = split.synced z (λ e. split.apart (sym e)) ∙ split.new_s in
        let is : cost same (get r z) (get nl z) (get ns z) ≡ 1 = cost_as same (get r z) (get nl z) (get ns z) None (Some copy) None split.new_r split.came gone_z in
        let a : mark r nl ns true z ≡ 0 = mark_absent r nl ns true z split.new_r in
        let b = mark_le l r s nl r ns true x z split_new in
        let c : mark ns r nl false z ≡ 0 = mark_absent ns r nl false z gone_z in
        points_at_most same now r nl ns z (1 + mark l r s true x) (omega arith) (omega (arith, is, a, b, c))

    -- the two count less together
    pub pay_split : points same now r nl ns x + points same now r nl ns z < points same fly r l s x + points same fly r l s z
    pay_split =
        let was = before in
        let is = after_x in
        let too = after_z in
        omega (arith, was, is, too)
