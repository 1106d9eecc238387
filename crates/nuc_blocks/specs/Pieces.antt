-- What the pieces of a file's bytes make of a store.
use Rattle.std.specs.Prelude.{◌≡◌, ℕ, List, [], ◌∷◌, ◌++◌, Some}
use Rattle.nuc_hash.specs.Content.{digest_of}
use Rattle.nuc_hash.specs.declared.digest.Digest.{Digest}
use Rattle.nuc_blocks.specs.Blocks.{Blocks, block_of, stored}

-- each block that stood stands
abbrev pub KeepsBlocks : Blocks → Blocks → Type 0
KeepsBlocks before after = (digest : Digest) (bytes : List ℕ) → block_of before digest ≡ Some bytes → block_of after digest ≡ Some bytes

-- the blocks once these are stored, one after the other
abbrev pub all_stored : List (List ℕ) → Blocks → Blocks
all_stored [] blocks = blocks
all_stored (bytes ∷ rest) blocks = all_stored rest (stored (digest_of bytes) bytes blocks)

-- of these pieces those in front are stored, and none of the rest
pub record IsPartStored (pieces : List (List ℕ)) (before after : Blocks) : Type 0 where
  pub front : List (List ℕ)
  pub rest : List (List ℕ)
  pub all : pieces ≡ front ++ rest
  pub blocks : after ≡ all_stored front before
