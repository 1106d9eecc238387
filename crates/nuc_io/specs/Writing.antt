-- What a write adds to a sink. A sink tells the bytes that were written, or never does: then nothing is said of them.
use Rattle.std.specs.Prelude.{◌≡◌, ℕ, Bool, true, false, ◌<◌, ◌≤◌, List, ◌++◌, length, take, Option, Some, None, Result, Ok, Err}
use Rattle.nuc_io.specs.declared.sink.Wrote.{Wrote}
use Rattle.nuc_io.specs.declared.sink.Wrote.TheVariants as wrote

-- these bytes were added at the end
abbrev pub Added : Option (List ℕ) → List ℕ → Option (List ℕ) → Type 0
Added None bytes after = after ≡ None
Added (Some before) bytes after = after ≡ Some (before ++ bytes)

-- a write added the first bytes of a piece, or nothing
abbrev pub Writes : Option (List ℕ) → Wrote → List ℕ → Option (List ℕ) → Type 0
Writes before (wrote.Some n) bytes after = (0 < n) × (n ≤ length bytes) × Added before (take n bytes) after
Writes before wrote.Failed bytes after = after ≡ before

-- all of the bytes were added, or, after a fault, the first of them
abbrev pub WritesAll : {E : Type 0} → Option (List ℕ) → Result Unit E → List ℕ → Option (List ℕ) → Type 0
WritesAll before (Ok x) bytes after = Added before bytes after
WritesAll before (Err e) bytes after = (n : ℕ) × Added before (take n bytes) after

-- whether a write failed
abbrev pub is_failed : Wrote → Bool
is_failed (wrote.Some n) = false
is_failed wrote.Failed = true
