use Rattle.std.specs.Prelude.{◌≡◌, ℕ, ◌≤◌, Bool, not, if◌then◌else◌, List, [], ◌∷◌, ◌++◌, length, Option, is_some, All}
use Rattle.std.specs.List.{find, flat_map, IsDistinct}
use Rattle.std.specs.Map.{keys_of, lookup}
use Rattle.std.specs.Option.{unwrap_or}
use Rattle.std.specs.Str.{bytes_eq}
use Rattle.nuc_hash.specs.Content.{digest_of}
use Rattle.nuc_hash.specs.declared.content.TheConstants.{BLOCK}
use Rattle.nuc_hash.specs.declared.digest.Digest.{Digest}

-- blocks in the order in which they were stored: of each the bytes of the digest that it stands under, and its own bytes
abbrev pub Blocks : Type 0
Blocks = List (List ℕ × List ℕ)

-- the bytes that stand under the digest
abbrev pub block_of : Blocks → Digest → Option (List ℕ)
block_of blocks digest = lookup (bytes_eq digest.0) blocks

abbrev pub is_missing : Blocks → Digest → Bool
is_missing blocks digest = not (is_some (block_of blocks digest))

-- the first digest of the list under which nothing stands
abbrev pub first_missing : Blocks → List Digest → Option Digest
first_missing blocks list = find (is_missing blocks) list

-- the blocks of these digests, one after the other; a digest under which nothing stands adds no bytes
abbrev pub assembled : Blocks → List Digest → List ℕ
assembled blocks list = flat_map (λ digest. unwrap_or (block_of blocks digest) []) list

-- the blocks once these bytes are stored: they go last, where nothing stood under the digest
abbrev pub stored : Digest → List ℕ → Blocks → Blocks
stored digest bytes blocks = if is_missing blocks digest then blocks ++ (digest.0, bytes) ∷ [] else blocks

-- the bytes have this digest, and aren't too many for a block
pub record IsBlock (digest : Digest) (bytes : List ℕ) : Type 0 where
  pub hashed : digest_of bytes ≡ digest
  pub short : length bytes ≤ BLOCK

-- each block stands under its digest, and no two under one
pub record AreBlocks (blocks : Blocks) : Type 0 where
  pub each : All (λ block. IsBlock (record { 0 = block.0 }) block.1) blocks
  pub distinct : IsDistinct bytes_eq (keys_of blocks)
