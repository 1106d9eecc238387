-- The steps of reading a line: one byte, and the bytes up to the next LF.
use Rattle.std.specs.Prelude.{◌≡◌, ℕ, ◌≤◌, List, [], ◌∷◌, ◌++◌, length, Option}
use Rattle.nuc_io.specs.Reading.{Took, AtEnd}
use Rattle.nuc_io.specs.Line.{IsOneLine}
use Rattle.nuc_io.specs.declared.line.Byte.{Byte}
use Rattle.nuc_io.specs.declared.line.Byte.TheVariants as byte
use Rattle.nuc_io.specs.declared.line.Filled.{Filled}
use Rattle.nuc_io.specs.declared.line.Filled.TheVariants as filled

abbrev pub GetsByte : Option (List ℕ) → Byte → Option (List ℕ) → Type 0
GetsByte left (byte.Some b) rest = Took left (b ∷ []) rest
GetsByte left byte.End rest = AtEnd left × (rest ≡ left)
GetsByte left byte.Failed rest = rest ≡ left

-- these bytes, none of them an LF, were taken, and behind them an LF, where there was one
abbrev pub Fills : Filled → List ℕ → Option (List ℕ) → Option (List ℕ) → Type 0
Fills filled.Lf bytes left rest = IsOneLine bytes × (length bytes ≤ 4097) × Took left (bytes ++ 10 ∷ []) rest
Fills filled.End bytes left rest = IsOneLine bytes × (length bytes ≤ 4097) × Took left bytes rest × AtEnd rest
Fills filled.Failed bytes left rest = IsOneLine bytes × (length bytes ≤ 4097) × Took left bytes rest
Fills filled.TooLong bytes left rest = IsOneLine bytes × (length bytes ≡ 4098) × Took left bytes rest
