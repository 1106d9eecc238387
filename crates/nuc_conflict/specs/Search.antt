-- How far the search for the topmost has come.
use Rattle.std.specs.Prelude.{◌≡◌, ◌<◌, ℕ, Bool, Option, Some, None, slice_get}
use Rattle.std.specs.FinMap.{keys}
use Rattle.nuc_base.specs.Trees.{Nodes, IsThere, Precedes, Steps}
use Rattle.nuc_class.specs.Wishes.{IsWish}
use Rattle.nuc_class.specs.declared.wishes.Wish.{Wish}
use Rattle.nuc_conflict.specs.declared.topmost.Found.{Found}

-- x is the topmost of those that stand in m and wish this
pub record IsTopmostThere (same : ℕ → ℕ → Bool) (r l s m : Nodes) (w : Wish) (x : ℕ) : Type 0 where
  pub wished : IsWish same r l s x w
  pub there : IsThere m x
  pub first : (y : ℕ) → IsThere m y → IsWish same r l s y w → Precedes m x y

-- x, at a position before i, is the topmost of those at the positions before i
pub record IsTopmostBefore (same : ℕ → ℕ → Bool) (r l s m : Nodes) (w : Wish) (i : ℕ) (found : Found) : Type 0 where
  pub wished : IsWish same r l s found.id.0 w
  pub position : ℕ
  pub within : position < i
  pub at : slice_get (keys m) position ≡ Some found.id.0
  pub deep : Steps m 0 found.id.0 found.depth
  pub first : (j y : ℕ) → j < i → slice_get (keys m) j ≡ Some y → IsWish same r l s y w → Precedes m found.id.0 y

-- or none of them wishes this
abbrev pub IsTopmostSoFar : (ℕ → ℕ → Bool) → Nodes → Nodes → Nodes → Nodes → Wish → ℕ → Option Found → Type 0
IsTopmostSoFar same r l s m w i (Some found) = IsTopmostBefore same r l s m w i found
IsTopmostSoFar same r l s m w i None = (j y : ℕ) → j < i → slice_get (keys m) j ≡ Some y → ¬ (IsWish same r l s y w)
