-- The list of identities in order of place.
use Rattle.std.specs.Prelude.{ℕ, List, Option, Some, option_map}
use Rattle.std.specs.FinMap.{get}
use Rattle.std.specs.Option.{option_cmp}
use Rattle.std.specs.Ordering.{nat_cmp, ordering_then}
use Rattle.std.specs.declared.cmp.Ordering.{Ordering}
use Rattle.nuc_base.specs.SamePlace.{name_order}
use Rattle.nuc_base.specs.Trees.{Nodes, IsThere}
use Rattle.nuc_base.specs.declared.node.Node.{Node}
use Rattle.nuc_base.specs.declared.node.NodeId.{NodeId}
use Rattle.nuc_base.specs.declared.node.Place.{Place}
use Rattle.nuc_index.specs.Rows.{Rises, IsAt, IsGap}

-- by the parents' identities, and then by the order of names
abbrev pub place_order : Place → Place → Ordering
place_order p q = ordering_then (nat_cmp p.parent.0 q.parent.0) (name_order p.name q.name)

-- the place of a node, if one is there
abbrev pub place_of : Option Node → Option Place
place_of o = option_map (λ n. n.place) o

-- how that compares with a place. None comes first
abbrev pub to_place : Option Node → Place → Ordering
to_place o p = option_cmp place_order (place_of o) (Some p)

-- identities by their nodes' places
abbrev pub by_place : Nodes → NodeId → NodeId → Ordering
by_place m x y = option_cmp place_order (place_of (get m x.0)) (place_of (get m y.0))

abbrev pub IsRisingByPlace : Nodes → List NodeId → Type 0
IsRisingByPlace m xs = Rises (by_place m) xs

abbrev pub IsPlaceAt : Nodes → Place → List NodeId → ℕ → Type 0
IsPlaceAt m p xs i = IsAt (λ x. to_place (get m x.0) p) xs i

abbrev pub IsPlaceGap : Nodes → Place → List NodeId → ℕ → Type 0
IsPlaceGap m p xs i = IsGap (λ x. to_place (get m x.0) p) xs i

-- the identity has a node
abbrev pub HasNode : Nodes → NodeId → Type 0
HasNode m x = IsThere m x.0
