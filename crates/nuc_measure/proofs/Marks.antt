-- Marks in three trees before and after a change of one identity, x: `own` is the tree that gives the mark.
use Rattle.std.proofs.Common.{◌≡◌, ◌≢◌, ◌⊎◌, ℕ, Bool, None, Some, sym, ap, subst, ◌∙◌, inl, inr}
use Rattle.std.specs.Prelude.{IsTrue}
use Rattle.std.specs.FinMap.{get}
use Rattle.nuc_base.specs.SamePlace.{SamePlace, same_place-sym, same_place-trans}
use Rattle.nuc_base.specs.Legal.{IsFree}
use Rattle.nuc_base.specs.Trees.{Nodes, IsVacant, StandsAt, WellFormed}
use Rattle.nuc_base.specs.declared.node.Node.{Node}
use Rattle.nuc_base.specs.declared.node.Place.{Place}
use Rattle.nuc_base.proofs.Maps.{one_node, same_or_not}
use Rattle.nuc_measure.specs.Marks.{IsLost, IsMarked}
use Rattle.nuc_measure.proofs.Marking.{Mark}

-- the trees have the same nodes but at x
abbrev pub Agree : Nodes → Nodes → ℕ → Type 0
Agree m k x = (y : ℕ) → y ≢ x → get k y ≡ get m y

-- x stood there in some tree, or nobody stood there in this one
abbrev pub Old : Nodes → Nodes → Nodes → ℕ → Place → Type 0
Old own a b x p = (StandsAt own x p ⊎ IsVacant own p) ⊎ (StandsAt a x p ⊎ StandsAt b x p)

-- another identity, y: what marks it now marked it before
module _ (own a b own' a' b' : Nodes) (orphans : Bool) (x y : ℕ) (other : y ≢ x) (form : WellFormed own)
    (on : Agree own own' x) (on_a : Agree a a' x) (on_b : Agree b b' x)
    (old_a : (k : Node) → get a' x ≡ Some k → Old own a b x k.place)
    (old_b : (k : Node) → get b' x ≡ Some k → Old own a b x k.place)
    (children : (n : Node) → IsTrue orphans → get own y ≡ Some n → n.place.parent.0 ≡ x → get a' x ≡ None → get b' x ≡ None → (get a x ≡ None) × (get b x ≡ None)) where
  -- a place that x has now, and that y has in its own tree, was one of x's in another tree
  met : (n k : Node) → get own y ≡ Some n → SamePlace k.place n.place → Old own a b x k.place → StandsAt a x n.place ⊎ StandsAt b x n.place
  met n k at near (inl (inl (h, stood, close))) = absurd (other (sym (form.places x y h n stood at (same_place-trans _ _ _ close near))))
  met n k at near (inl (inr free)) = absurd (free y n at (same_place-sym _ _ near))
  met n k at near (inr (inl (h, stood, close))) = inl (h, stood, same_place-trans _ _ _ close near)
  met n k at near (inr (inr (h, stood, close))) = inr (h, stood, same_place-trans _ _ _ close near)

  back : (n : Node) → StandsAt a x n.place ⊎ StandsAt b x n.place → Mark a b orphans y n
  back n (inl (h, stood, near)) = inl (x, h, stood, near, λ e. other (sym e))
  back n (inr (h, stood, near)) = inr (inl (x, h, stood, near, λ e. other (sym e)))

  from_a : (n : Node) → get own y ≡ Some n → (z : ℕ) (k : Node) → get a' z ≡ Some k → SamePlace k.place n.place → z ≢ y → (z ≡ x) ⊎ (z ≢ x) → Mark a b orphans y n
  from_a n at z k there near apart (inl e) = back n (met n k at near (old_a k (sym (ap (get a') e) ∙ there)))
  from_a n at z k there near apart (inr e) = inl (z, k, sym (on_a z e) ∙ there, near, apart)

  from_b : (n : Node) → get own y ≡ Some n → (z : ℕ) (k : Node) → get b' z ≡ Some k → SamePlace k.place n.place → z ≢ y → (z ≡ x) ⊎ (z ≢ x) → Mark a b orphans y n
  from_b n at z k there near apart (inl e) = back n (met n k at near (old_b k (sym (ap (get b') e) ∙ there)))
  from_b n at z k there near apart (inr e) = inr (inl (z, k, sym (on_b z e) ∙ there, near, apart))

  lost : (n : Node) → IsTrue orphans → get own y ≡ Some n → IsLost a' b' n.place.parent.0 → (n.place.parent.0 ≡ x) ⊎ (n.place.parent.0 ≢ x) → IsLost a b n.place.parent.0
  lost n counts at (below, gone_a, gone_b) (inl e) =
      let before = children n counts at e (sym (ap (get a') e) ∙ gone_a) (sym (ap (get b') e) ∙ gone_b) in
      (below, ap (get a) e ∙ before.0, ap (get b) e ∙ before.1)
  lost n counts at (below, gone_a, gone_b) (inr e) = (below, sym (on_a n.place.parent.0 e) ∙ gone_a, sym (on_b n.place.parent.0 e) ∙ gone_b)

  mark_of : (n : Node) → get own y ≡ Some n → Mark a' b' orphans y n → Mark a b orphans y n
  mark_of n at (inl (z, k, there, near, apart)) = from_a n at z k there near apart (same_or_not z x)
  mark_of n at (inr (inl (z, k, there, near, apart))) = from_b n at z k there near apart (same_or_not z x)
  mark_of n at (inr (inr (counts, gone))) = inr (inr (counts, lost n counts at gone (same_or_not n.place.parent.0 x)))

  pub old_places : IsMarked own' a' b' orphans y → IsMarked own a b orphans y
  old_places (n, at, mark) = let before : get own y ≡ Some n = sym (on y other) ∙ at in (n, before, mark_of n before mark)

-- x's own mark in a tree in which it keeps its place
pub own_same : (own a b own' a' b' : Nodes) (orphans : Bool) (x : ℕ) → Agree a a' x → Agree b b' x
    → (n n' : Node) → get own x ≡ Some n → get own' x ≡ Some n' → SamePlace n'.place n.place → n'.place.parent.0 ≢ x
    → IsMarked own' a' b' orphans x → IsMarked own a b orphans x
own_same own a b own' a' b' orphans x on_a on_b n n' at at' close loop (k, there, mark) = (n, at, by (subst (λ (h : Node). Mark a' b' orphans x h) (one_node own' x k n' there at') mark))
  where
    by : Mark a' b' orphans x n' → Mark a b orphans x n
    by (inl (z, h, stood, near, apart)) = inl (z, h, sym (on_a z apart) ∙ stood, same_place-trans _ _ _ near close, apart)
    by (inr (inl (z, h, stood, near, apart))) = inr (inl (z, h, sym (on_b z apart) ∙ stood, same_place-trans _ _ _ near close, apart))
    by (inr (inr (counts, (below, gone_a, gone_b)))) =
        let e : n'.place.parent.0 ≡ n.place.parent.0 = close.parent in
        let off : n.place.parent.0 ≢ x = λ q. loop (e ∙ q) in
        inr (inr (counts, (λ q. below (e ∙ q), sym (on_a n.place.parent.0 off) ∙ (ap (get a') (sym e) ∙ gone_a), sym (on_b n.place.parent.0 off) ∙ (ap (get b') (sym e) ∙ gone_b))))

-- no mark where nobody else stands there in the other two, and the parent stands in one of them
pub own_none : (own a b : Nodes) (orphans : Bool) (x : ℕ) (n : Node) → get own x ≡ Some n → IsFree a x n.place → IsFree b x n.place
    → (IsTrue orphans → IsLost a b n.place.parent.0 → ⊥) → IsMarked own a b orphans x → ⊥
own_none own a b orphans x n at alone_a alone_b kept (k, there, mark) = by (subst (λ (h : Node). Mark a b orphans x h) (one_node own x k n there at) mark)
  where
    by : Mark a b orphans x n → ⊥
    by (inl (z, h, stood, near, apart)) = apart (alone_a z h stood near)
    by (inr (inl (z, h, stood, near, apart))) = apart (alone_b z h stood near)
    by (inr (inr (counts, gone))) = kept counts gone
