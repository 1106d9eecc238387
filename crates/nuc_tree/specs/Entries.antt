-- The list of entries in order of identity.
use Rattle.std.specs.Prelude.{◌≡◌, ◌<◌, ◌==◌, ℕ, zero, suc, List, [], ◌∷◌, map, filter}
use Rattle.std.specs.FinMap.{from_sorted}
use Rattle.nuc_base.specs.Trees.{Nodes}
use Rattle.nuc_base.specs.declared.node.Node.{Node}
use Rattle.nuc_tree.specs.declared.entry.Entry.{Entry}

abbrev pub pairs : List Entry → List (ℕ × Node)
pairs es = map (λ e. (e.id.0, e.node)) es

abbrev pub nodes_of : List Entry → Nodes
nodes_of es = from_sorted (pairs es)

-- x is below each identity
abbrev pub IsBelow : ℕ → List Entry → Type 0
IsBelow x [] = Unit {0}
IsBelow x (e ∷ es) = (x < e.id.0) × IsBelow x es

-- each identity is below those after it
abbrev pub IsRising : List Entry → Type 0
IsRising [] = Unit {0}
IsRising (e ∷ es) = IsBelow e.id.0 es × IsRising es

-- x stands at this position, after smaller identities
abbrev pub IsFound : ℕ → List Entry → ℕ → Type 0
IsFound x [] i = ⊥
IsFound x (e ∷ es) zero = e.id.0 ≡ x
IsFound x (e ∷ es) (suc i) = (e.id.0 < x) × IsFound x es i

-- x would stand at this position, after smaller identities and before greater ones
abbrev pub IsGap : ℕ → List Entry → ℕ → Type 0
IsGap x [] i = i ≡ 0
IsGap x (e ∷ es) zero = x < e.id.0
IsGap x (e ∷ es) (suc i) = (e.id.0 < x) × IsGap x es i

-- the identities of those with this parent, in the list's order
abbrev pub child_ids : ℕ → List Entry → List ℕ
child_ids x es = map (λ e. e.id.0) (filter (λ e. e.node.place.parent.0 == x) es)
