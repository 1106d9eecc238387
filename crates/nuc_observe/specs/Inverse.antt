-- Two maps that lead back to each other.
use Rattle.std.specs.Prelude.{◌≡◌, ℕ, Option, None, Some}
use Rattle.std.specs.FinMap.{get, insert, len}
use Rattle.nuc_lookup.specs.Rows.{Numbers, without}

-- each leads back where the other leads
pub record AreInverse (ids keys : Numbers) : Type 0 where
  pub there : (x k : ℕ) → get ids x ≡ Some k → get keys k ≡ Some x
  pub back : (x k : ℕ) → get keys k ≡ Some x → get ids x ≡ Some k
  pub size : len ids ≡ len keys

-- the new key leads back to x, if it has one, and no more the old one
abbrev pub led_back : Numbers → ℕ → Option ℕ → Option ℕ → Numbers
led_back keys x old None = without keys old
led_back keys x old (Some k) = insert (without keys old) k x
