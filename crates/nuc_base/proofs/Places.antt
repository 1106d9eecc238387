-- When a place is free for an identity.
use Rattle.std.proofs.Common.{◌≡◌, ℕ, Option, Some, None, MatchOption, IfSome, inl, inr}
use Rattle.nuc_base.specs.Legal.{IsFree}
use Rattle.nuc_base.specs.SamePlace.{same_place-sym, same_place-trans}
use Rattle.nuc_base.specs.Trees.{Nodes, Held, IsVacant, StandsAt, WellFormed}
use Rattle.nuc_base.specs.declared.node.NodeId.{NodeId}
use Rattle.nuc_base.specs.declared.node.Place.{Place}
use Rattle.nuc_base.proofs.Maps.{same_or_not}

-- nobody has the place, or x itself
pub free_of_found : (m : Nodes) (x : ℕ) (p : Place) (found : Option NodeId) → WellFormed m
    → MatchOption found (IsVacant m p) (λ y. StandsAt m y.0 p) → IfSome found (λ y. y.0 ≡ x) → IsFree m x p
free_of_found m x p None form none own y n e s = absurd (none y n e s)
free_of_found m x p (Some z) form (k, f, t) own y n e s =
    form.places y x n k e (rw (← own) f) (same_place-trans n.place p k.place s (same_place-sym k.place p t))

-- a place that no other has is free
pub free_unless_held : (m : Nodes) (x : ℕ) (p : Place) → ¬ (Held m p x) → IsFree m x p
free_unless_held m x p none y n e s = elim (same_or_not y x) [
  | inl same ↦ same
  | inr other ↦ absurd (none (y, n, e, s, other))
]

-- and one that another has isn't
pub held-not_free : (m : Nodes) (x : ℕ) (p : Place) → Held m p x → ¬ (IsFree m x p)
held-not_free m x p (y, n, e, s, other) free = other (free y n e s)

-- a place has one holder
pub one_holder : (m : Nodes) (y z : ℕ) (p : Place) → WellFormed m → StandsAt m y p → StandsAt m z p → y ≡ z
one_holder m y z p form (n, e, s) (k, f, t) = form.places y z n k e f (same_place-trans n.place p k.place s (same_place-sym k.place p t))
