-- An adoption: y of Local, which stands nowhere else, becomes x, which stands in Remote alone, and its children get the parent x.
use Rattle.std.proofs.Common.{◌≡◌, ◌≢◌, ◌<◌, ◌≤◌, ◌+◌, ◌&&◌, ◌==◌, ℕ, Bool, true, false, cond, Option, None, Some, option_map, refl, sym, ap, subst, ◌∙◌, inl, inr, arith}
use Rattle.std.specs.Bool.{beq}
use Rattle.std.specs.FinMap.{get}
use Rattle.std.proofs.lemmas.Bool.{cases_Bool}
use Rattle.nuc_base.specs.Codes.{is_file}
use Rattle.nuc_base.specs.Legal.{IsFree}
use Rattle.nuc_base.specs.Renamed.{IsRenamed, with_parent}
use Rattle.nuc_base.specs.SamePlace.{SamePlace, same_place-sym}
use Rattle.nuc_base.specs.Trees.{Nodes, IsFolder, WellFormed}
use Rattle.nuc_base.specs.declared.node.Node.{Node}
use Rattle.nuc_base.specs.declared.node.Place.{Place}
use Rattle.nuc_base.proofs.Came.{Came, came_from, renamed_get_child, renamed_get_other}
use Rattle.nuc_base.proofs.Came.Came.{renamed, stood, child}
use Rattle.nuc_base.proofs.Maps.{not_both, one_node, same_or_not}
use Rattle.nuc_class.specs.Equal.{node_eq, place_eq}
use Rattle.nuc_class.specs.Merge.{target}
use Rattle.nuc_class.specs.Split.{needs_split}
use Rattle.nuc_class.proofs.Tells.{place_eq-Decides}
use Rattle.nuc_conflict.specs.FitTogether.{FitTogether}
use Rattle.nuc_measure.specs.Cost.{cost}
use Rattle.nuc_measure.specs.Marks.{IsMarked}
use Rattle.nuc_measure.specs.Pays.{NoMoreFlies}
use Rattle.nuc_measure.specs.Potential.{mark, marks, points}
use Rattle.nuc_measure.proofs.Costs.{cost_some, no_split_of_one, node_itself}
use Rattle.nuc_measure.proofs.Marking.{Mark}
use Rattle.nuc_measure.proofs.Marks.{own_none}
use Rattle.nuc_measure.proofs.Points.{kept_le, mark_absent, mark_few, mark_le, mark_none, mark_one, points_at_most, points_differ, points_equal}
use Rattle.nuc_measure.proofs.Steps.{cost_as, free_own, none_some, not_differs, not_lost, same_as}

-- where a child of the adopted stands below another parent than in Remote, its new parent makes nothing dearer
module _ (same : ℕ → ℕ → Bool) where
  one_at_most : (b : Bool) → cond b 0 1 ≤ 1
  one_at_most true = omega arith
  one_at_most false = omega arith

  two_at_most : (b : Bool) → cond b 1 2 ≤ 2
  two_at_most true = omega arith
  two_at_most false = omega arith

  by_tests_le : (cut v b c : Bool) (p q : ℕ) → cond b 0 1 ≤ 1 → p ≤ q → cond cut 3 (cond v (cond b 0 1) p) ≤ cond cut 3 (cond v 1 q)
  by_tests_le true v b c p q h k = omega arith
  by_tests_le false true b c p q h k = h
  by_tests_le false false b c p q h k = k

  target_le : (t : Bool) (kinds ver bit : Bool) (p q r : Place) → place_eq q r ≡ false
      → cond (place_eq (cond t p r) r && kinds && ver && bit) 1 2 ≤ cond (place_eq (cond t q r) r && kinds && ver && bit) 1 2
  target_le true kinds ver bit p q r apart = rw apart (two_at_most (place_eq p r && kinds && ver && bit))
  target_le false kinds ver bit p q r apart = omega arith

  cost_child_both : (r l s : Node) (e : Place) → place_eq l.place r.place ≡ false
      → cost same (Some r) (Some (record l { place = e })) (Some s) ≤ cost same (Some r) (Some l) (Some s)
  cost_child_both r l s e apart =
      let far : node_eq l r ≡ false = ap (λ x. x && beq (is_file l.kind) (is_file r.kind) && l.ver.0 == r.ver.0 && beq l.bit r.bit) apart in
      let kinds : Bool = beq (is_file r.kind) (is_file r.kind) in
      let ver : Bool = (cond (r.ver.0 == s.ver.0) l.ver r.ver).0 == r.ver.0 in
      let bit : Bool = beq (cond (beq r.bit s.bit) l.bit r.bit) r.bit in
      subst (λ x. cost same (Some r) (Some (record l { place = e })) (Some s)
      ≤ cond (needs_split same (Some r) (Some l) (Some s)) 3 (cond (node_eq r s) (cond x 0 1) (cond (node_eq (target r (Some l) (Some s)) r) 1 2))) (sym far)
      (by_tests_le (needs_split same (Some r) (Some l) (Some s)) (node_eq r s) (node_eq (record l { place = e }) r) true _ _
      (one_at_most (node_eq (record l { place = e }) r)) (target_le (place_eq r.place s.place) kinds ver bit e l.place r.place apart))

  pub cost_child : (r : Option Node) (l : Node) (s : Option Node) (e : Place) → ((n : Node) → r ≡ Some n → place_eq l.place n.place ≡ false)
      → cost same r (Some (record l { place = e })) s ≤ cost same r (Some l) s
  cost_child None l s e apart = omega arith
  cost_child (Some r) l None e apart = omega arith
  cost_child (Some r) l (Some s) e apart = cost_child_both r l s e (apart r refl)

-- the trees before and after
pub record Adopts (r l s nl : Nodes) (x y : ℕ) (node own new : Node) : Type 0 where
  pub root : 0 < x
  pub own_root : 0 < y
  pub there : get r x ≡ Some node
  pub own_there : get l y ≡ Some own
  pub new_l : get l x ≡ None
  pub new_s : get s x ≡ None
  pub own_new_r : get r y ≡ None
  pub own_new_s : get s y ≡ None
  pub place : own.place ≡ node.place
  pub free : IsFree s x node.place
  pub renamed : IsRenamed l y x new nl
  pub form : WellFormed nl
  pub new_place : new.place ≡ node.place
  pub new_ver : new.ver.0 ≡ node.ver.0

module _ (r l s nl : Nodes) (x y : ℕ) (node own new : Node) (fit : FitTogether r l s) (adopts : Adopts r l s nl x y node own new) where
  apart : x ≢ y
  apart e = not_both l x own adopts.new_l (subst (λ q. get l q ≡ Some own) (sym e) adopts.own_there)

  -- nobody but in Local stands below y, and nobody but in Remote below x
  no_parent : (m : Nodes) (q : ℕ) → WellFormed m → 0 < q → get m q ≡ None → (w : ℕ) (n : Node) → get m w ≡ Some n → n.place.parent.0 ≢ q
  no_parent m q form above none w n at e = by (form.parents w n at)
    where
      by : IsFolder m n.place.parent.0 → ⊥
      by (inl root) = omega (arith, root, e, above)
      by (inr (h, there, folder)) = not_both m q h none (subst (λ z. get m z ≡ Some h) e there)

  -- the parent of one in Remote is lost in Local no more than before
  gone_before : (w q : ℕ) (n : Node) → get r w ≡ Some n → n.place.parent.0 ≡ q → get nl q ≡ None → get l q ≡ None
  gone_before w q n at is gone = by (get l q) refl
    where
      off_y : q ≢ y
      off_y e = no_parent r y fit.remote adopts.own_root adopts.own_new_r w n at (is ∙ e)

      off_x : q ≢ x
      off_x e = not_both nl x new (subst (λ z. get nl z ≡ None) e gone) adopts.renamed.came

      by : (o : Option Node) → get l q ≡ o → get l q ≡ None
      by None was = was
      by (Some g) was = elim (same_or_not g.place.parent.0 y) [
        | inl e ↦ none_some (with_parent x g) (get nl q) gone (renamed_get_child l y x new nl adopts.renamed q g off_x off_y was e)
        | inr e ↦ none_some g (get nl q) gone (renamed_get_other l y x new nl adopts.renamed q g off_x off_y was e)
      ]

  adopt_remote : (w : ℕ) → w ≢ x → IsMarked r nl s true w → IsMarked r l s true w
  adopt_remote w other (n, at, mark) = (n, at, by mark)
    where
      held : (z : ℕ) (h : Node) → SamePlace h.place n.place → z ≢ w → Came l y x new z h → Mark l s true w n
      held z h near off (renamed e is) =
          let close : SamePlace node.place n.place = subst (λ (p : Place). SamePlace p n.place) (ap (λ (k : Node). k.place) is ∙ adopts.new_place) near in
          absurd (other (sym (fit.remote.places x w node n adopts.there at close)))
      held z h near off (stood off_x off_y was parent) = inl (z, h, was, near, off)
      held z h near off (child g off_x off_y was parent is) =
          let e : n.place.parent.0 ≡ x = sym near.parent ∙ ap (λ (k : Node). k.place.parent.0) is in
          let root = adopts.root in
          inr (inr (refl, ((λ q. omega (arith, q, e, root)), ap (get l) e ∙ adopts.new_l, ap (get s) e ∙ adopts.new_s)))

      by : Mark nl s true w n → Mark l s true w n
      by (inl (z, h, there, near, off)) = held z h near off (came_from l y x new nl adopts.renamed z h there)
      by (inr (inl some)) = inr (inl some)
      by (inr (inr (counts, (below, gone, gone_s)))) = inr (inr (counts, (below, gone_before w n.place.parent.0 n at refl gone, gone_s)))

  adopt_synced : (w : ℕ) → w ≢ x → IsMarked s r nl false w → IsMarked s r l false w
  adopt_synced w other (n, at, mark) = (n, at, by mark)
    where
      held : (z : ℕ) (h : Node) → SamePlace h.place n.place → z ≢ w → Came l y x new z h → Mark r l false w n
      held z h near off (renamed e is) =
          let close : SamePlace node.place n.place = subst (λ (p : Place). SamePlace p n.place) (ap (λ (k : Node). k.place) is ∙ adopts.new_place) near in
          absurd (other (adopts.free w n at (same_place-sym _ _ close)))
      held z h near off (stood off_x off_y was parent) = inr (inl (z, h, was, near, off))
      held z h near off (child g off_x off_y was parent is) =
          absurd (no_parent s x fit.synced adopts.root adopts.new_s w n at (sym near.parent ∙ ap (λ (k : Node). k.place.parent.0) is))

      by : Mark r nl false w n → Mark r l false w n
      by (inl some) = inl some
      by (inr (inl (z, h, there, near, off))) = held z h near off (came_from l y x new nl adopts.renamed z h there)
      by (inr (inr (counts, gone))) = absurd (let clash : false ≡ true = counts in cc)

  -- a child of y had its mark in Local already
  adopt_child : (w : ℕ) (h : Node) → get l w ≡ Some h → h.place.parent.0 ≡ y → IsMarked l r s true w
  adopt_child w h at e =
      let root = adopts.own_root in
      (h, at, inr (inr (refl, ((λ q. omega (arith, q, e, root)), ap (get r) e ∙ adopts.own_new_r, ap (get s) e ∙ adopts.own_new_s))))

  -- who isn't one keeps its value
  value_kept : (w : ℕ) → w ≢ x → w ≢ y → ((h : Node) → get l w ≡ Some h → h.place.parent.0 ≢ y) → get nl w ≡ get l w
  value_kept w off_x off_y off = by (get l w) refl
    where
      by : (o : Option Node) → get l w ≡ o → get nl w ≡ get l w
      by None was = adopts.renamed.others w off_x off_y ∙ ap (option_map _) was ∙ sym was
      by (Some h) was = renamed_get_other l y x new nl adopts.renamed w h off_x off_y was (off h was) ∙ sym was

  adopt_other : (w : ℕ) → get nl w ≡ get l w → IsMarked nl r s true w → IsMarked l r s true w
  adopt_other w kept (n, there, mark) = (n, sym kept ∙ there, mark)

  module _ (same : ℕ → ℕ → Bool) (fly now : ℕ → Bool) (flies : NoMoreFlies fly now) where
    others_same : (w : ℕ) → w ≢ x → w ≢ y → ((h : Node) → get l w ≡ Some h → h.place.parent.0 ≢ y) → points same now r nl s w ≤ points same fly r l s w
    others_same w off_x off_y off =
        let kept = value_kept w off_x off_y off in
        let a = mark_le r l s r nl s true w w (adopt_remote w off_x) in
        let b = mark_le l r s nl r s true w w (adopt_other w kept) in
        let c = mark_le s r l s r nl false w w (adopt_synced w off_x) in
        kept_le same fly now r l s r nl s w refl kept refl (omega (arith, a, b, c)) (flies w)

    child_le : (w : ℕ) (h : Node) → w ≢ x → w ≢ y → get l w ≡ Some h → h.place.parent.0 ≡ y → points same now r nl s w ≤ points same fly r l s w
    child_le w h off_x off_y at e =
        let far : (n : Node) → get r w ≡ Some n → n.place.parent.0 ≢ y = λ n there. no_parent r y fit.remote adopts.own_root adopts.own_new_r w n there in
        let differ = not_differs (get r w) (get l w) (get s w) (λ (first, second). far h (first ∙ at) e) in
        let before : points same fly r l s w ≡ cost same (get r w) (get l w) (get s w) + marks r l s w = points_differ same fly r l s w differ in
        let some : 1 ≤ cost same (get r w) (get l w) (get s w) = cost_some same (get r w) (get l w) (get s w) differ in
        let was : cost same (get r w) (get l w) (get s w) ≡ cost same (get r w) (Some h) (get s w) =
        cost_as same (get r w) (get l w) (get s w) (get r w) (Some h) (get s w) refl at refl in
        let is : cost same (get r w) (get nl w) (get s w) ≡ cost same (get r w) (Some (with_parent x h)) (get s w) =
        cost_as same (get r w) (get nl w) (get s w) (get r w) (Some (with_parent x h)) (get s w) refl (renamed_get_child l y x new nl adopts.renamed w h off_x off_y at e) refl in
        let le : cost same (get r w) (Some (with_parent x h)) (get s w) ≤ cost same (get r w) (Some h) (get s w) =
        cost_child same (get r w) h (get s w) (with_parent x h).place (λ n there. unlike h n (λ p. far n there (sym p ∙ e))) in
        let a = mark_le r l s r nl s true w w (adopt_remote w off_x) in
        let b = mark_few nl r s true w in
        let d : mark l r s true w ≡ 1 = mark_one l r s true w (adopt_child w h at e) in
        let c = mark_le s r l s r nl false w w (adopt_synced w off_x) in
        points_at_most same now r nl s w (points same fly r l s w) (omega (arith, before, some)) (omega (arith, before, was, is, le, a, b, c, d))
      where
        unlike : (h n : Node) → h.place.parent.0 ≢ n.place.parent.0 → place_eq h.place n.place ≡ false
        unlike h n off = elim (cases_Bool (place_eq h.place n.place)) [
          | inl t ↦ absurd (off (ap (λ (p : Place). p.parent.0) ((place_eq-Decides h.place n.place).0 t)))
          | inr f ↦ f
        ]

    pub adopt_others : (w : ℕ) → w ≢ x → w ≢ y → points same now r nl s w ≤ points same fly r l s w
    adopt_others w off_x off_y = by (get l w) refl
      where
        by : (o : Option Node) → get l w ≡ o → points same now r nl s w ≤ points same fly r l s w
        by None was = others_same w off_x off_y (λ h at. none_some h (get l w) was at)
        by (Some h) was = elim (same_or_not h.place.parent.0 y) [
          | inl e ↦ child_le w h off_x off_y was e
          | inr e ↦ others_same w off_x off_y (λ g at. subst (λ (k : Node). k.place.parent.0 ≢ y) (one_node l w h g was at) e)
        ]

    near_own : SamePlace own.place node.place
    near_own = same_as own.place node.place adopts.place

    before_x : 2 ≤ points same fly r l s x
    before_x =
        let differ = not_differs (get r x) (get l x) (get s x) (λ (first, second). none_some node (get r x) (first ∙ adopts.new_l) adopts.there) in
        let before : points same fly r l s x ≡ cost same (get r x) (get l x) (get s x) + marks r l s x = points_differ same fly r l s x differ in
        let some : 1 ≤ cost same (get r x) (get l x) (get s x) = cost_some same (get r x) (get l x) (get s x) differ in
        let marked : mark r l s true x ≡ 1 =
        mark_one r l s true x (node, adopts.there, inl (y, own, adopts.own_there, near_own, λ e. apart (sym e))) in
        omega (arith, before, some, marked)

    before_y : 2 ≤ points same fly r l s y
    before_y =
        let differ = not_differs (get r y) (get l y) (get s y) (λ (first, second). none_some own (get l y) (sym first ∙ adopts.own_new_r) adopts.own_there) in
        let before : points same fly r l s y ≡ cost same (get r y) (get l y) (get s y) + marks r l s y = points_differ same fly r l s y differ in
        let some : 1 ≤ cost same (get r y) (get l y) (get s y) = cost_some same (get r y) (get l y) (get s y) differ in
        let marked : mark l r s true y ≡ 1 =
        mark_one l r s true y (own, adopts.own_there, inl (x, node, adopts.there, same_place-sym _ _ near_own, apart)) in
        omega (arith, before, some, marked)

    half : cost same (Some node) (Some new) None ≡ 1
    half = rw (no_split_of_one same node new None adopts.new_ver, node_itself node) refl

    after_x : points same now r nl s x ≤ 2
    after_x =
        let is : cost same (get r x) (get nl x) (get s x) ≡ 1 =
        cost_as same (get r x) (get nl x) (get s x) (Some node) (Some new) None adopts.there adopts.renamed.came adopts.new_s ∙ half in
        let a : mark r nl s true x ≡ 0 =
        mark_none r nl s true x (own_none r nl s true x node adopts.there
        (free_own nl x new node.place adopts.form adopts.renamed.came (same_as new.place node.place adopts.new_place)) adopts.free
        (λ counts. not_lost nl s node.place.parent.0 (inl (subst (λ (p : Place). IsFolder nl p.parent.0) adopts.new_place (adopts.form.parents x new adopts.renamed.came))))) in
        let b = mark_few nl r s true x in
        let c : mark s r nl false x ≡ 0 = mark_absent s r nl false x adopts.new_s in
        points_at_most same now r nl s x 2 (omega arith) (omega (arith, is, a, b, c))

    after_y : points same now r nl s y ≤ 1
    after_y =
        let gone : get nl y ≡ None = adopts.renamed.gone in
        let is : points same now r nl s y ≡ cond (now y) 1 0 = points_equal same now r nl s y (adopts.own_new_r ∙ sym gone, gone ∙ sym adopts.own_new_s) in
        let few : cond (now y) 1 0 ≤ 1 = most (now y) in
        omega (arith, is, few)
      where
        most : (b : Bool) → cond b 1 0 ≤ 1
        most true = omega arith
        most false = omega arith

    -- the two count less together
    pub pay_adopt : points same now r nl s x + points same now r nl s y < points same fly r l s x + points same fly r l s y
    pay_adopt =
        let a = before_x in
        let b = before_y in
        let c = after_x in
        let d = after_y in
        omega (arith, a, b, c, d)
