-- The points of an identity before and after a change of one identity.
use Rattle.std.proofs.Common.{◌≡◌, ◌≢◌, ◌⊎◌, ◌≤◌, ◌+◌, ℕ, Bool, true, false, cond, Option, None, Some, refl, sym, ap, ◌∙◌, inl, inr, arith, Decides}
use Rattle.std.specs.FinMap.{get}
use Rattle.std.proofs.lemmas.Bool.{cases_Bool}
use Rattle.nuc_base.specs.Trees.{Nodes, IsFolder, IsVacant, StandsAt, WellFormed}
use Rattle.nuc_base.specs.declared.node.Node.{Node}
use Rattle.nuc_base.specs.declared.node.Place.{Place}
use Rattle.nuc_base.proofs.Maps.{not_both}
use Rattle.nuc_class.specs.Wishes.{AllEqual}
use Rattle.nuc_measure.specs.Cost.{cost}
use Rattle.nuc_measure.specs.Differing.{differs}
use Rattle.nuc_measure.specs.Marks.{IsMarked, is_marked}
use Rattle.nuc_measure.specs.Potential.{mark, marks, points}
use Rattle.nuc_measure.proofs.Costs.{cost_some}
use Rattle.nuc_measure.proofs.Counting.{equal_tells, tells_equal}
use Rattle.nuc_measure.proofs.Marking.{Mark, is_marked-Decides}
use Rattle.nuc_measure.proofs.Marks.{Agree, Old, old_places}

less_by : (b c : Bool) → (b ≡ true → c ≡ true) → (let k : ℕ = cond b 1 0 in k ≤ cond c 1 0)
less_by true true h = omega arith
less_by true false h = absurd (let clash : false ≡ true = h refl in cc)
less_by false c h = omega arith

pub mark_le : (own a b own' a' b' : Nodes) (orphans : Bool) (x y : ℕ) → (IsMarked own' a' b' orphans y → IsMarked own a b orphans x)
    → mark own' a' b' orphans y ≤ mark own a b orphans x
mark_le own a b own' a' b' orphans x y from =
    less_by (is_marked a' b' orphans y (get own' y)) (is_marked a b orphans x (get own x))
    (λ e. (is_marked-Decides own a b orphans x).1 (from ((is_marked-Decides own' a' b' orphans y).0 e)))

pub mark_few : (own a b : Nodes) (orphans : Bool) (x : ℕ) → mark own a b orphans x ≤ 1
mark_few own a b orphans x = by (is_marked a b orphans x (get own x))
  where
    by : (t : Bool) → cond t 1 0 ≤ 1
    by true = omega arith
    by false = omega arith

pub mark_none : (own a b : Nodes) (orphans : Bool) (x : ℕ) → ¬ (IsMarked own a b orphans x) → mark own a b orphans x ≡ 0
mark_none own a b orphans x never =
    ap (λ (t : Bool). cond t 1 0) (by (is_marked a b orphans x (get own x)) (is_marked-Decides own a b orphans x))
  where
    by : (t : Bool) → Decides t (IsMarked own a b orphans x) → t ≡ false
    by true d = absurd (never (d.0 refl))
    by false d = refl

pub mark_one : (own a b : Nodes) (orphans : Bool) (x : ℕ) → IsMarked own a b orphans x → mark own a b orphans x ≡ 1
mark_one own a b orphans x marked = ap (λ (t : Bool). cond t 1 0) ((is_marked-Decides own a b orphans x).1 marked)

-- what stands in a tree no more has no mark there
pub mark_absent : (own a b : Nodes) (orphans : Bool) (x : ℕ) → get own x ≡ None → mark own a b orphans x ≡ 0
mark_absent own a b orphans x none = mark_none own a b orphans x (λ (n, at, mark). not_both own x n none at)

module _ (same : ℕ → ℕ → Bool) (fly : ℕ → Bool) (r l s : Nodes) (x : ℕ) where
  pub points_differ : differs (get r x) (get l x) (get s x) ≡ true → points same fly r l s x ≡ cost same (get r x) (get l x) (get s x) + marks r l s x
  points_differ e = ap (λ (d : Bool). cond d (cost same (get r x) (get l x) (get s x) + marks r l s x) (cond (fly x) 1 0)) e

  pub points_equal : AllEqual (get r x) (get l x) (get s x) → points same fly r l s x ≡ cond (fly x) 1 0
  points_equal e =
      ap (λ (d : Bool). cond d (cost same (get r x) (get l x) (get s x) + marks r l s x) (cond (fly x) 1 0)) (equal_tells (get r x) (get l x) (get s x) e)

  -- what differs counts
  pub points_some : differs (get r x) (get l x) (get s x) ≡ true → 1 ≤ points same fly r l s x
  points_some e =
      let is = points_differ e in
      let some = cost_some same (get r x) (get l x) (get s x) e in
      omega (arith, is, some)

  -- and so does what flies
  pub points_fly : fly x ≡ true → 1 ≤ points same fly r l s x
  points_fly e = elim (cases_Bool (differs (get r x) (get l x) (get s x))) [
    | inl d ↦ points_some d
    | inr d ↦
        let is : points same fly r l s x ≡ cond (fly x) 1 0 = points_equal (tells_equal (get r x) (get l x) (get s x) d) in
        let one : points same fly r l s x ≡ 1 = is ∙ ap (λ (f : Bool). cond f 1 0) e in
        omega (arith, one)
  ]

  -- no more than the cost and the marks, where that is one at least
  pub points_at_most : (c : ℕ) → 1 ≤ c → cost same (get r x) (get l x) (get s x) + marks r l s x ≤ c → points same fly r l s x ≤ c
  points_at_most c some le = by (differs (get r x) (get l x) (get s x)) (fly x)
    where
      by : (d f : Bool) → cond d (cost same (get r x) (get l x) (get s x) + marks r l s x) (cond f 1 0) ≤ c
      by true f = le
      by false true = some
      by false false = omega arith

  -- and where it doesn't fly
  pub points_grounded : fly x ≡ false → points same fly r l s x ≤ cost same (get r x) (get l x) (get s x) + marks r l s x
  points_grounded e = rw e (by (differs (get r x) (get l x) (get s x)) (cost same (get r x) (get l x) (get s x) + marks r l s x))
    where
      by : (d : Bool) (c : ℕ) → cond d c 0 ≤ c
      by true c = omega arith
      by false c = omega arith

-- a place that x had in some tree, or nobody had in any
abbrev pub OldPlace : Nodes → Nodes → Nodes → ℕ → Place → Type 0
OldPlace r l s x p = (StandsAt r x p ⊎ (StandsAt l x p ⊎ StandsAt s x p)) ⊎ (IsVacant r p × IsVacant l p × IsVacant s p)

-- a change of x alone: each place that it gets it had in some tree, or nobody had it, and it leaves no child without
-- a parent on the other side
pub record ChangesOne (r l s r' l' s' : Nodes) (x : ℕ) : Type 0 where
  pub remote : Agree r r' x
  pub local : Agree l l' x
  pub synced : Agree s s' x
  pub old_r : (k : Node) → get r' x ≡ Some k → OldPlace r l s x k.place
  pub old_l : (k : Node) → get l' x ≡ Some k → OldPlace r l s x k.place
  pub old_s : (k : Node) → get s' x ≡ Some k → OldPlace r l s x k.place
  pub children_r : (y : ℕ) (n : Node) → get r y ≡ Some n → n.place.parent.0 ≡ x → get l' x ≡ None → get s' x ≡ None → (get l x ≡ None) × (get s x ≡ None)
  pub children_l : (y : ℕ) (n : Node) → get l y ≡ Some n → n.place.parent.0 ≡ x → get r' x ≡ None → get s' x ≡ None → (get r x ≡ None) × (get s x ≡ None)

old_in_r : (r l s : Nodes) (x : ℕ) (p : Place) → OldPlace r l s x p → Old r l s x p
old_in_r r l s x p (inl (inl at)) = inl (inl at)
old_in_r r l s x p (inl (inr at)) = inr at
old_in_r r l s x p (inr free) = inl (inr free.0)

old_in_l : (r l s : Nodes) (x : ℕ) (p : Place) → OldPlace r l s x p → Old l r s x p
old_in_l r l s x p (inl (inl at)) = inr (inl at)
old_in_l r l s x p (inl (inr (inl at))) = inl (inl at)
old_in_l r l s x p (inl (inr (inr at))) = inr (inr at)
old_in_l r l s x p (inr free) = inl (inr free.1)

old_in_s : (r l s : Nodes) (x : ℕ) (p : Place) → OldPlace r l s x p → Old s r l x p
old_in_s r l s x p (inl (inl at)) = inr (inl at)
old_in_s r l s x p (inl (inr (inl at))) = inr (inr at)
old_in_s r l s x p (inl (inr (inr at))) = inl (inl at)
old_in_s r l s x p (inr free) = inl (inr free.2)

module _ (r l s r' l' s' : Nodes) (x : ℕ) (remote : WellFormed r) (local : WellFormed l) (synced : WellFormed s) (one : ChangesOne r l s r' l' s' x)
    (y : ℕ) (other : y ≢ x) where
  pub marked_r : IsMarked r' l' s' true y → IsMarked r l s true y
  marked_r = old_places r l s r' l' s' true x y other remote one.remote one.local one.synced
      (λ k at. old_in_r r l s x k.place (one.old_l k at))
      (λ k at. old_in_r r l s x k.place (one.old_s k at))
      (λ n counts at e gone too. one.children_r y n at e gone too)

  pub marked_l : IsMarked l' r' s' true y → IsMarked l r s true y
  marked_l = old_places l r s l' r' s' true x y other local one.local one.remote one.synced
      (λ k at. old_in_l r l s x k.place (one.old_r k at))
      (λ k at. old_in_l r l s x k.place (one.old_s k at))
      (λ n counts at e gone too. one.children_l y n at e gone too)

  pub marked_s : IsMarked s' r' l' false y → IsMarked s r l false y
  marked_s = old_places s r l s' r' l' false x y other synced one.synced one.remote one.local
      (λ k at. old_in_s r l s x k.place (one.old_r k at))
      (λ k at. old_in_s r l s x k.place (one.old_l k at))
      (λ n counts at e gone too. absurd (let clash : false ≡ true = counts in cc))

  pub marks_le : marks r' l' s' y ≤ marks r l s y
  marks_le =
      let a = mark_le r l s r' l' s' true y y marked_r in
      let b = mark_le l r s l' r' s' true y y marked_l in
      let c = mark_le s r l s' r' l' false y y marked_s in
      omega (arith, a, b, c)

-- of an identity with the same values, by its marks
same_values : (same : ℕ → ℕ → Bool) (r l s a b c : Option Node) (m k : ℕ) (f g : Bool) → a ≡ r → b ≡ l → c ≡ s → m ≤ k → (f ≡ true → g ≡ true)
    → cond (differs a b c) (cost same a b c + m) (cond f 1 0) ≤ cond (differs r l s) (cost same r l s + k) (cond g 1 0)
same_values same r l s a b c m k f g e h i le flies = rw (e, h, i) (by (differs r l s))
  where
    by : (d : Bool) → cond d (cost same r l s + m) (cond f 1 0) ≤ cond d (cost same r l s + k) (cond g 1 0)
    by true = omega (arith, le)
    by false = less_by f g flies

-- an identity that keeps its values, and gets no mark
pub kept_le : (same : ℕ → ℕ → Bool) (fly fly' : ℕ → Bool) (r l s r' l' s' : Nodes) (y : ℕ)
    → get r' y ≡ get r y → get l' y ≡ get l y → get s' y ≡ get s y → marks r' l' s' y ≤ marks r l s y → (fly' y ≡ true → fly y ≡ true)
    → points same fly' r' l' s' y ≤ points same fly r l s y
kept_le same fly fly' r l s r' l' s' y in_r in_l in_s le flies =
    same_values same (get r y) (get l y) (get s y) (get r' y) (get l' y) (get s' y) (marks r' l' s' y) (marks r l s y) (fly' y) (fly y) in_r in_l in_s le flies

-- no other identity counts more
pub others_le : (same : ℕ → ℕ → Bool) (fly fly' : ℕ → Bool) (r l s r' l' s' : Nodes) (x : ℕ) → WellFormed r → WellFormed l → WellFormed s
    → ChangesOne r l s r' l' s' x → (y : ℕ) → y ≢ x → (fly' y ≡ true → fly y ≡ true) → points same fly' r' l' s' y ≤ points same fly r l s y
others_le same fly fly' r l s r' l' s' x remote local synced one y other flies =
    kept_le same fly fly' r l s r' l' s' y (one.remote y other) (one.local y other) (one.synced y other)
    (marks_le r l s r' l' s' x remote local synced one y other) flies

-- what is equal has no marks
pub equal_marks : (r l s : Nodes) (x : ℕ) → WellFormed r → WellFormed l → WellFormed s → AllEqual (get r x) (get l x) (get s x) → marks r l s x ≡ 0
equal_marks r l s x remote local synced (first, second) =
    let in_r = mark_none r l s true x (λ (n, at, mark). none l s true n remote local synced (sym first ∙ at) (sym second ∙ sym first ∙ at) at mark) in
    let in_l = mark_none l r s true x (λ (n, at, mark). none r s true n local remote synced (first ∙ at) (sym second ∙ at) at mark) in
    let in_s = mark_none s r l false x (λ (n, at, mark). none r l false n synced remote local (first ∙ second ∙ at) (second ∙ at) at mark) in
    omega (arith, in_r, in_l, in_s)
  where
    none : (a b : Nodes) (orphans : Bool) (n : Node) {own : Nodes} → WellFormed own → WellFormed a → WellFormed b
        → get a x ≡ Some n → get b x ≡ Some n → get own x ≡ Some n → Mark a b orphans x n → ⊥
    none a b orphans n own in_a in_b at_a at_b at (inl (z, h, stood, near, apart)) = apart (in_a.places z x h n stood at_a near)
    none a b orphans n own in_a in_b at_a at_b at (inr (inl (z, h, stood, near, apart))) = apart (in_b.places z x h n stood at_b near)
    none a b orphans n own in_a in_b at_a at_b at (inr (inr (counts, (below, gone, too)))) = parent_gone (in_a.parents x n at_a)
      where
        parent_gone : IsFolder a n.place.parent.0 → ⊥
        parent_gone (inl root) = below root
        parent_gone (inr (h, there, folder)) = not_both a n.place.parent.0 h gone there

pub marks_few : (r l s : Nodes) (x : ℕ) → marks r l s x ≤ 3
marks_few r l s x =
    let a = mark_few r l s true x in
    let b = mark_few l r s true x in
    let c = mark_few s r l false x in
    omega (arith, a, b, c)
