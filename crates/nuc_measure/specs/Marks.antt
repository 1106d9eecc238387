-- What is in an identity's way: each tree in which it stands can give it a mark.
use Rattle.std.specs.Prelude.{◌≡◌, ◌≢◌, ◌⊎◌, ◌==◌, ◌&&◌, ◌||◌, not, ℕ, Bool, true, false, IsTrue, Option, None, Some}
use Rattle.std.specs.FinMap.{get, keys}
use Rattle.std.specs.List.{list_any}
use Rattle.nuc_base.specs.SamePlace.{is_same_name}
use Rattle.nuc_base.specs.Trees.{Nodes, Held}
use Rattle.nuc_base.specs.declared.node.Node.{Node}
use Rattle.nuc_base.specs.declared.node.Place.{Place}

-- the identity isn't the root, and stands in neither of the two trees
abbrev pub IsLost : Nodes → Nodes → ℕ → Type 0
IsLost a b q = (q ≢ 0) × (get a q ≡ None) × (get b q ≡ None)

-- x has in its own tree a place that another has in one of the other two; or, where orphans count, a parent that stands in
-- neither of those
abbrev pub IsMarked : Nodes → Nodes → Nodes → Bool → ℕ → Type 0
IsMarked own a b orphans x = (n : Node) × (get own x ≡ Some n)
    × (Held a n.place x ⊎ (Held b n.place x ⊎ (IsTrue orphans × IsLost a b n.place.parent.0)))

-- the same as tests
abbrev pub same_place : Place → Place → Bool
same_place p q = p.parent.0 == q.parent.0 && is_same_name p.name q.name

abbrev pub stands_at : Option Node → Place → Bool
stands_at None p = false
stands_at (Some n) p = same_place n.place p

abbrev pub is_held : Nodes → Place → ℕ → Bool
is_held m p x = list_any (λ y. stands_at (get m y) p && not (y == x)) (keys m)

abbrev pub is_absent : Option Node → Bool
is_absent None = true
is_absent (Some n) = false

abbrev pub is_lost : Nodes → Nodes → ℕ → Bool
is_lost a b q = not (q == 0) && is_absent (get a q) && is_absent (get b q)

abbrev pub is_marked : Nodes → Nodes → Bool → ℕ → Option Node → Bool
is_marked a b orphans x None = false
is_marked a b orphans x (Some n) = is_held a n.place x || is_held b n.place x || (orphans && is_lost a b n.place.parent.0)
