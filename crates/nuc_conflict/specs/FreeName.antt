-- The name of a copy that nobody has in its folder yet.
use Rattle.std.specs.Prelude.{◌≡◌, ◌<◌, ℕ, List}
use Rattle.nuc_base.specs.Candidates.{candidate}
use Rattle.nuc_base.specs.Trees.{Nodes, IsVacant}
use Rattle.nuc_base.specs.declared.node.Place.{Place}

-- the place of this name below this parent
abbrev pub place_of : ℕ → List ℕ → Place
place_of parent name = record { parent = record { 0 = parent }; name = name }

-- nobody has the place in any of the three trees
pub record IsUnused (r l s : Nodes) (p : Place) : Type 0 where
  pub remote : IsVacant r p
  pub local : IsVacant l p
  pub synced : IsVacant s p

-- of the candidates for a copy of what has this name, the first whose place below the parent nobody has
pub record IsFreeName (r l s : Nodes) (parent : ℕ) (name free : List ℕ) : Type 0 where
  pub number : ℕ
  pub counted : 0 < number
  pub is : free ≡ candidate name number
  pub unused : IsUnused r l s (place_of parent free)
  pub first : (k : ℕ) → 0 < k → k < number → ¬ (IsUnused r l s (place_of parent (candidate name k)))
