-- The tests of marks decide what they stand for.
use Rattle.std.proofs.Common.{◌≡◌, ◌≢◌, ◌⊎◌, ◌==◌, ◌&&◌, ◌||◌, not, ℕ, zero, suc, Bool, true, false, Option, None, Some, List, [], ◌∷◌, refl, sym, ap, subst, ◌∙◌, inl, inr, Decides, MatchBool}
use Rattle.std.specs.Prelude.{IsTrue, slice_get}
use Rattle.std.specs.FinMap.{get, keys}
use Rattle.std.specs.List.{list_any}
use Rattle.std.proofs.lemmas.Bool.Decides.{Decides-and, Decides-eqb, Decides-like, Decides-not, Decides-or, eqb_tells}
use Rattle.std.proofs.lemmas.Option.{same_Some}
use Rattle.nuc_base.specs.SamePlace.{SameName, SamePlace, is_same_name, is_same_name-tells, same_place-sym, same_place-trans}
use Rattle.nuc_base.specs.Trees.{Nodes, Held, IsVacant, StandsAt, WellFormed}
use Rattle.nuc_base.specs.declared.node.Node.{Node}
use Rattle.nuc_base.specs.declared.node.Place.{Place}
use Rattle.nuc_base.proofs.Order.{nth_of}
use Rattle.nuc_measure.specs.Marks.{IsLost, IsMarked, same_place, stands_at, is_held, is_absent, is_lost, is_marked}

decided : (t : Bool) (P : Type 0) → MatchBool t P (¬ P) → Decides t P
decided true P holds = (λ e. holds, λ p. refl)
decided false P never = (λ e. let clash : false ≡ true = e in cc, λ p. absurd (never p))

pub same_place-Decides : (p q : Place) → Decides (same_place p q) (SamePlace p q)
same_place-Decides p q = Decides-like (same_place p q)
    (λ (parent, name). record { parent = parent; name = name })
    (λ near. (near.parent, near.name))
    (Decides-and _ _ (Decides-eqb p.parent.0 q.parent.0) (decided (is_same_name p.name q.name) (SameName p.name q.name) (is_same_name-tells p.name q.name)))

-- a node that is there has the place
abbrev pub HasPlace : Option Node → Place → Type 0
HasPlace o p = (n : Node) × (o ≡ Some n) × SamePlace n.place p

stands_at-Decides : (o : Option Node) (p : Place) → Decides (stands_at o p) (HasPlace o p)
stands_at-Decides None p = (λ e. let clash : false ≡ true = e in cc, λ (n, at, near). absurd (let clash : None ≡ Some n = at in cc))
stands_at-Decides (Some k) p = Decides-like (same_place k.place p)
    (λ near. (k, refl, near))
    (λ (n, at, near). subst (λ (h : Node). SamePlace h.place p) (sym (same_Some k n at)) near)
    (same_place-Decides k.place p)

any_at : (p : ℕ → Bool) (xs : List ℕ) (i y : ℕ) → slice_get xs i ≡ Some y → p y ≡ true → list_any p xs ≡ true
any_at p [] i y at holds = absurd (let clash : None ≡ Some y = at in cc)
any_at p (x ∷ xs) zero y at holds = let is : x ≡ y = same_Some x y at in ap (λ b. b || list_any p xs) (ap p is ∙ holds)
any_at p (x ∷ xs) (suc i) y at holds = last (p x) (any_at p xs i y at holds)
  where
    last : (b : Bool) → list_any p xs ≡ true → (b || list_any p xs) ≡ true
    last true e = refl
    last false e = e

found_in : (p : ℕ → Bool) (xs : List ℕ) → list_any p xs ≡ true → (i : ℕ) × (y : ℕ) × (slice_get xs i ≡ Some y) × (p y ≡ true)
found_in p [] e = absurd (let clash : false ≡ true = e in cc)
found_in p (x ∷ xs) e = by (p x) refl (λ later. found_in p xs later)
  where
    by : (b : Bool) → p x ≡ b → (list_any p xs ≡ true → (i : ℕ) × (y : ℕ) × (slice_get xs i ≡ Some y) × (p y ≡ true))
        → (i : ℕ) × (y : ℕ) × (slice_get (x ∷ xs) i ≡ Some y) × (p y ≡ true)
    by true holds later = (0, x, refl, holds)
    by false other later =
        let rest = later (sym (ap (λ b. b || list_any p xs) other) ∙ e) in
        (suc rest.0, rest.1, rest.2, rest.3)

pub is_held-Decides : (m : Nodes) (p : Place) (x : ℕ) → Decides (is_held m p x) (Held m p x)
is_held-Decides m p x = (
  λ e.
      let (i, y, at, holds) = found_in test (keys m) e in
      let ((n, there, near), other) = (each y).0 holds in (y, n, there, near, other),
  λ (y, n, there, near, other).
      let (i, within, at) = nth_of m y (n, there) in any_at test (keys m) i y at ((each y).1 ((n, there, near), other)),
)
  where
    test : ℕ → Bool
    test y = stands_at (get m y) p && not (y == x)

    each : (y : ℕ) → Decides (test y) (HasPlace (get m y) p × (y ≢ x))
    each y = Decides-and _ _ (stands_at-Decides (get m y) p) (Decides-not (y == x) (Decides-eqb y x))

is_absent-Decides : (o : Option Node) → Decides (is_absent o) (o ≡ None)
is_absent-Decides None = (λ e. refl, λ e. refl)
is_absent-Decides (Some n) = (λ e. let clash : false ≡ true = e in cc, λ e. let clash : Some n ≡ None = e in cc)

pub is_lost-Decides : (a b : Nodes) (q : ℕ) → Decides (is_lost a b q) (IsLost a b q)
is_lost-Decides a b q = Decides-like (is_lost a b q)
    (λ ((below, gone), too). (below, gone, too))
    (λ (below, gone, too). ((below, gone), too))
    (Decides-and _ _ (Decides-and _ _ (Decides-not (q == 0) (Decides-eqb q 0)) (is_absent-Decides (get a q))) (is_absent-Decides (get b q)))

-- what marks a node that stands at x
abbrev pub Mark : Nodes → Nodes → Bool → ℕ → Node → Type 0
Mark a b orphans x n = Held a n.place x ⊎ (Held b n.place x ⊎ (IsTrue orphans × IsLost a b n.place.parent.0))

itself-Decides : (b : Bool) → Decides b (IsTrue b)
itself-Decides b = (λ e. e, λ e. e)

mark-Decides : (a b : Nodes) (orphans : Bool) (x : ℕ) (n : Node) → Decides (is_marked a b orphans x (Some n)) (Mark a b orphans x n)
mark-Decides a b orphans x n = Decides-like (is_marked a b orphans x (Some n))
    (λ e. elim e [ inl some ↦ elim some [ inl held ↦ inl held | inr held ↦ inr (inl held) ] | inr lost ↦ inr (inr lost) ])
    (λ e. elim e [ inl held ↦ inl (inl held) | inr some ↦ elim some [ inl held ↦ inl (inr held) | inr lost ↦ inr lost ] ])
    (Decides-or _ _ (Decides-or _ _ (is_held-Decides a n.place x) (is_held-Decides b n.place x))
    (Decides-and _ _ (itself-Decides orphans) (is_lost-Decides a b n.place.parent.0)))

pub is_marked-Decides : (own a b : Nodes) (orphans : Bool) (x : ℕ) → Decides (is_marked a b orphans x (get own x)) (IsMarked own a b orphans x)
is_marked-Decides own a b orphans x = by (get own x)
  where
    by : (o : Option Node) → Decides (is_marked a b orphans x o) ((n : Node) × (o ≡ Some n) × Mark a b orphans x n)
    by None = (λ e. let clash : false ≡ true = e in cc, λ (n, at, mark). absurd (let clash : None ≡ Some n = at in cc))
    by (Some k) = Decides-like (is_marked a b orphans x (Some k))
        (λ mark. (k, refl, mark))
        (λ (n, at, mark). subst (λ (h : Node). Mark a b orphans x h) (sym (same_Some k n at)) mark)
        (mark-Decides a b orphans x k)

-- by who is found at the place
pub held_by_none : (m : Nodes) (x : ℕ) (p : Place) → IsVacant m p → false ≡ is_held m p x
held_by_none m x p vacant = by (is_held m p x) (is_held-Decides m p x)
  where
    by : (t : Bool) → Decides t (Held m p x) → false ≡ t
    by true d = let (y, n, at, near, other) = d.0 refl in absurd (vacant y n at near)
    by false d = refl

pub held_by_one : (m : Nodes) (x y : ℕ) (p : Place) → WellFormed m → StandsAt m y p → not (y == x) ≡ is_held m p x
held_by_one m x y p form (n, at, near) = elim (eqb_tells y x) [
  | inl (t, e) ↦ ap not t ∙ itself (is_held m p x) (is_held-Decides m p x) e
  | inr (t, other) ↦ ap not t ∙ sym ((is_held-Decides m p x).1 (y, n, at, near, other))
]
  where
    itself : (t : Bool) → Decides t (Held m p x) → y ≡ x → false ≡ t
    itself true d e =
        let (z, k, there, close, other) = d.0 refl in
        absurd (other (form.places z y k n there at (same_place-trans _ _ _ close (same_place-sym _ _ near)) ∙ e))
    itself false d e = refl
