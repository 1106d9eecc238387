-- What a read takes from a source. A source tells the bytes that are left, or never does: then nothing is said of them.
use Rattle.std.specs.Prelude.{◌≡◌, ℕ, ◌<◌, ◌≤◌, List, [], ◌++◌, length, take, Option, Some, None}
use Rattle.nuc_io.specs.declared.source.Got.{Got}
use Rattle.nuc_io.specs.declared.source.Got.TheVariants as got

-- these bytes stood in front of what is left now
abbrev pub Took : Option (List ℕ) → List ℕ → Option (List ℕ) → Type 0
Took None bytes after = after ≡ None
Took (Some before) bytes after = (rest : List ℕ) × (after ≡ Some rest) × (before ≡ bytes ++ rest)

-- nothing is left
abbrev pub AtEnd : Option (List ℕ) → Type 0
AtEnd None = Unit {0}
AtEnd (Some left) = left ≡ []

-- a read put the next bytes at the front of the buffer, found the end, or left everything where it was
abbrev pub Reads : Option (List ℕ) → Got → List ℕ → Option (List ℕ) → Type 0
Reads before (got.Some n) buffer after = (0 < n) × (n ≤ length buffer) × Took before (take n buffer) after
Reads before got.End buffer after = AtEnd before × (after ≡ before)
Reads before got.Failed buffer after = after ≡ before
