-- What an operation does to what three trees carry.
use Rattle.std.specs.Prelude.{◌<◌, ◌≤◌, ℕ, Bool, IsTrue}
use Rattle.nuc_base.specs.Trees.{Nodes}
use Rattle.nuc_measure.specs.Potential.{IsCarried}

-- nothing is in flight now that wasn't before
abbrev pub NoMoreFlies : (ℕ → Bool) → (ℕ → Bool) → Type 0
NoMoreFlies fly now = (x : ℕ) → IsTrue (now x) → IsTrue (fly x)

-- every identity in flight is below m
abbrev pub FliesBelow : (ℕ → Bool) → ℕ → Type 0
FliesBelow fly m = (x : ℕ) → IsTrue (fly x) → x < m

-- from the first three trees and flights to the second, what is carried gets less
abbrev pub Lowers : (ℕ → ℕ → Bool) → (ℕ → Bool) → Nodes → Nodes → Nodes → (ℕ → Bool) → Nodes → Nodes → Nodes → Type 0
Lowers same fly r l s now nr nl ns = (m a b : ℕ) → FliesBelow fly m → IsCarried same fly r l s a → IsCarried same now nr nl ns b → b < a

-- or no more at least
abbrev pub Keeps : (ℕ → ℕ → Bool) → (ℕ → Bool) → Nodes → Nodes → Nodes → (ℕ → Bool) → Nodes → Nodes → Nodes → Type 0
Keeps same fly r l s now nr nl ns = (m a b : ℕ) → FliesBelow fly m → IsCarried same fly r l s a → IsCarried same now nr nl ns b → b ≤ a
