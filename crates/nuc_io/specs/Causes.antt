-- What answers a fault: a count that rose in that call.
use Rattle.std.specs.Prelude.{ℕ, ◌+◌, ◌-◌, ◌^◌, ◌≤◌, min}

-- the count rose, or stands at the last value of a u64
abbrev pub Rose : ℕ → ℕ → Type 0
Rose before now = min (before + 1) (2 ^ 64 - 1) ≤ now

-- the count doesn't fall, and a fault is answered only where it rose
pub record HasCause (before now : ℕ) (Fault : Type 0) : Type 0 where
  pub later : before ≤ now
  pub failed : Fault → Rose before now
