-- Contents: `=` and bytes, or `*N:HH`, which is N times the byte HH.
use Rattle.std.specs.Prelude.{ℕ, ◌==◌, List, [], ◌∷◌, Option, Some, None, if◌then◌else◌}
use Rattle.std.specs.List.{before_first, after_first}
use Rattle.nuc_hash.specs.declared.filling.Filling.{Filling}
use Rattle.nuc_hash.specs.declared.filling.Filling.TheVariants.{Given, Repeat}
use Rattle.nuc_script.specs.Escapes.{hex_value, byte_of}
use Rattle.nuc_script.specs.Numbers.{number_of, within}

-- the byte that two hexadecimal digits are
abbrev pub hex_byte : List ℕ → Option ℕ
hex_byte [] = None
hex_byte (high ∷ []) = None
hex_byte (high ∷ low ∷ []) = byte_of (hex_value high) (hex_value low)
hex_byte (high ∷ low ∷ next ∷ bytes) = None

abbrev pub filled : Option ℕ → Option ℕ → Option Filling
filled None byte = None
filled (Some count) None = None
filled (Some count) (Some byte) = Some (Repeat count byte)

-- `N:HH`
abbrev pub repeated : List ℕ → Option Filling
repeated bytes = filled (within 0 67108864 (number_of (before_first (λ b. b == 58) bytes))) (hex_byte (after_first (λ b. b == 58) bytes))

abbrev pub content_of : List ℕ → Option Filling
content_of [] = None
content_of (b ∷ bs) = if b == 61 then Some (Given bs) else (if b == 42 then repeated bs else None)
