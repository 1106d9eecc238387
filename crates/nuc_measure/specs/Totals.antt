-- Sums over all identities.
use Rattle.std.specs.Prelude.{◌≡◌, ◌+◌, ℕ, zero, suc}
use Rattle.nuc_base.specs.Trees.{Nodes}
use Rattle.nuc_conflict.specs.FitTogether.{IsBelow}

-- f 0 + .. + f (n - 1)
abbrev pub total : ℕ → (ℕ → ℕ) → ℕ
total zero f = 0
total (suc n) f = total n f + f n

-- every identity in the trees is below n
pub record AreBelow (r l s : Nodes) (n : ℕ) : Type 0 where
  pub remote : IsBelow r n
  pub local : IsBelow l n
  pub synced : IsBelow s n

-- the sum over all identities: that over the numbers below any bound that is above all of them
abbrev pub IsTotal : Nodes → Nodes → Nodes → (ℕ → ℕ) → ℕ → Type 0
IsTotal r l s f k = (n : ℕ) → AreBelow r l s n → total n f ≡ k
