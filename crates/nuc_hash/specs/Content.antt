use Rattle.std.specs.Prelude.{◌≡◌, ℕ, ◌+◌, ◌-◌, ◌/◌, List, length, map}
use Rattle.std.specs.Int.{div_ceil}
use Rattle.std.specs.List.{flat_map}
use Rattle.std.specs.Simd.{first_chunks}
use Rattle.sha2.specs.Sha256.{sha256}
use Rattle.nuc_hash.specs.declared.digest.Digest.{Digest}
use Rattle.nuc_hash.specs.declared.content.TheConstants.{BLOCK}

-- what is known of a file's bytes: the digest of its blocks' digests, the number of bytes, and the blocks' digests in order
pub record ContentData : Type 0 where
  pub hash : Digest
  pub size : ℕ
  pub blocks : List Digest

-- as many pieces of n bytes as it takes, one after the other; only the last may be shorter, and no bytes have no piece
unfoldable pub pieces : ℕ → List ℕ → List (List ℕ)
pieces n bytes = first_chunks n ((length bytes + n - 1) / n) bytes

-- the pieces that are hashed, each by itself
unfoldable pub blocks_of : List ℕ → List (List ℕ)
blocks_of bytes = pieces BLOCK bytes

-- the SHA-256 of these bytes
unfoldable pub digest_of : List ℕ → Digest
digest_of bytes = record { 0 = sha256 bytes }

-- the digests, one after the other
unfoldable pub joined : List Digest → List ℕ
joined digests = flat_map (λ d. d.0) digests

-- the digests of the blocks, and the digest of these digests
unfoldable pub content_of : List ℕ → ContentData
content_of bytes =
    let digests = map digest_of (blocks_of bytes) in
    record { hash = digest_of (joined digests); size = length bytes; blocks = digests }

-- a content has as many blocks as bytes of its size take, and is the one of its size and these blocks' digests
abbrev pub IsOfItsBlocks : ContentData → Type 0
IsOfItsBlocks c = (length c.blocks ≡ div_ceil c.size BLOCK)
    × (c ≡ record { hash = digest_of (joined c.blocks); size = c.size; blocks = c.blocks })

abbrev pub EachIsOfItsBlocks : Type 0
EachIsOfItsBlocks = (bytes : List ℕ) → IsOfItsBlocks (content_of bytes)
