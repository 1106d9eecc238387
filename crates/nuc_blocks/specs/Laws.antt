use Rattle.std.specs.Prelude.{◌≡◌, ◌≢◌, ℕ, ◌<◌, List, [], ◌∷◌, length, None, Some}
use Rattle.std.specs.Option.{unwrap_or}
use Rattle.nuc_hash.specs.Content.{content_of, digest_of, joined}
use Rattle.nuc_hash.specs.declared.content.TheConstants.{BLOCK}
use Rattle.nuc_hash.specs.declared.digest.Digest.{Digest}
use Rattle.nuc_blocks.specs.Blocks.{AreBlocks, Blocks, IsBlock, assembled, block_of, first_missing, stored}

-- stored bytes stand under their digest, where nothing stood there
abbrev pub StoredStands : Type 0
StoredStands = (blocks : Blocks) (digest : Digest) (bytes : List ℕ) → block_of blocks digest ≡ None
    → block_of (stored digest bytes blocks) digest ≡ Some bytes

-- what stood stands on, at the digest too
abbrev pub KeptStands : Type 0
KeptStands = (blocks : Blocks) (digest : Digest) (bytes : List ℕ) (other : Digest) (kept : List ℕ) → block_of blocks other ≡ Some kept
    → block_of (stored digest bytes blocks) other ≡ Some kept

-- at every other digest all is as before
abbrev pub OthersStand : Type 0
OthersStand = (blocks : Blocks) (digest : Digest) (bytes : List ℕ) (other : Digest) → other ≢ digest
    → block_of (stored digest bytes blocks) other ≡ block_of blocks other

-- what stands under a digest has it
abbrev pub EachHasItsDigest : Type 0
EachHasItsDigest = (blocks : Blocks) → AreBlocks blocks → (digest : Digest) (bytes : List ℕ) → block_of blocks digest ≡ Some bytes
    → IsBlock digest bytes

-- a block is full where more follow, and the last has a byte
abbrev pub IsCutBefore : List Digest → ℕ → Type 0
IsCutBefore [] size = 0 < size
IsCutBefore (next ∷ rest) size = size ≡ BLOCK

-- the blocks of these digests are such as a file's bytes are cut into
abbrev pub AreCut : Blocks → List Digest → Type 0
AreCut blocks [] = Unit {0}
AreCut blocks (digest ∷ rest) = IsCutBefore rest (length (unwrap_or (block_of blocks digest) [])) × AreCut blocks rest

-- blocks that are so cut give bytes whose content has these blocks
abbrev pub AssemblesContents : Type 0
AssemblesContents = (blocks : Blocks) → AreBlocks blocks → (list : List Digest) → first_missing blocks list ≡ None → AreCut blocks list
    → content_of (assembled blocks list) ≡ record { hash = digest_of (joined list); size = length (assembled blocks list); blocks = list }
