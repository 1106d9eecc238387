-- The bytes of a content that an edit gives.
use Rattle.std.specs.Prelude.{ℕ, List, replicate}
use Rattle.nuc_hash.specs.declared.filling.Filled.{Filled}
use Rattle.nuc_hash.specs.declared.filling.Filled.TheVariants.{Lent, Made}
use Rattle.nuc_hash.specs.declared.filling.Filling.{Filling}
use Rattle.nuc_hash.specs.declared.filling.Filling.TheVariants.{Given, Repeat}

-- the bytes of a file that is filled so
abbrev pub filling_bytes : Filling → List ℕ
filling_bytes (Given bytes) = bytes
filling_bytes (Repeat count byte) = replicate count byte

-- the bytes that were lent or made
abbrev pub filled_bytes : Filled → List ℕ
filled_bytes (Lent bytes) = bytes.now
filled_bytes (Made bytes) = bytes
