use Rattle.std.specs.Prelude.{◌≡◌, ◌<◌, ◌≤◌, ◌⊎◌, ℕ, List, [], ◌∷◌, length}
use Rattle.nuc_base.specs.Names.{good_len}
use Rattle.nuc_base.specs.declared.name_fault.NameFault.{NameFault}
use Rattle.nuc_base.specs.declared.name_fault.NameFault.TheVariants as fault

-- the first reason why bytes are no name: each has the reasons above it as not the case
abbrev pub NameFaulty : List ℕ → NameFault → Type 0
NameFaulty bytes fault.Empty = length bytes ≡ 0
NameFaulty bytes (fault.TooLong len) = (255 < len) × (len ≡ length bytes)
NameFaulty bytes (fault.BadByte at) = (length bytes ≤ 255) × (at < length bytes) × (at ≡ good_len bytes)
NameFaulty bytes fault.Dots = (bytes ≡ 46 ∷ []) ⊎ (bytes ≡ 46 ∷ 46 ∷ [])
NameFaulty bytes fault.Memory = Unit {0}
