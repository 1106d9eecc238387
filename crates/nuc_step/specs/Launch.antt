-- What is laid by for operations before they fly.
use Rattle.std.specs.Prelude.{◌≡◌, ◌≢◌, ℕ, All, AllPairs, List}
use Rattle.std.specs.FinMap.{get}
use Rattle.nuc_class.specs.declared.op.Op.{Op}
use Rattle.nuc_undo.specs.Laid.{Laid}

-- no two have the same number
abbrev pub AreApart : List Op → Type 0
AreApart ops = AllPairs (λ o p. o.number ≢ p.number) ops

-- the same lies under its number now and once all changes are taken back
abbrev pub IsFresh : Laid → Laid → Op → Type 0
IsFresh laid laid_then op = get laid op.number ≡ get laid_then op.number

-- only what lies under their numbers has changed, and what was the same now and then still is
pub record LaidOver (ops : List Op) (laid laid_then new new_then : Laid) : Type 0 where
  pub others : (n : ℕ) → All (λ op. n ≢ op.number) ops → get new n ≡ get laid n
  pub others_then : (n : ℕ) → All (λ op. n ≢ op.number) ops → get new_then n ≡ get laid_then n
  pub fresh : (n : ℕ) → get laid n ≡ get laid_then n → get new n ≡ get new_then n

-- only what lies under this number may have changed, and the same lies there now and then
pub record LaidOne (number : ℕ) (laid laid_then new new_then : Laid) : Type 0 where
  pub others : (n : ℕ) → n ≢ number → get new n ≡ get laid n
  pub others_then : (n : ℕ) → n ≢ number → get new_then n ≡ get laid_then n
  pub fresh : get new number ≡ get new_then number
