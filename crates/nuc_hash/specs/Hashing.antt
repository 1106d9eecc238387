use Rattle.std.specs.Prelude.{◌≡◌, ℕ, ◌<◌, List, ◌++◌, length, map, vec_len, vec_capacity}
use Rattle.sha2.specs.Hashers.{Holds256}
use Rattle.nuc_hash.specs.Content.{blocks_of, digest_of}
use Rattle.nuc_hash.specs.declared.digest.Digest.{Digest}
use Rattle.nuc_hash.specs.declared.blocks.Blocks.{Blocks}
use Rattle.nuc_hash.specs.declared.content.TheConstants.{BLOCK}

-- the bytes end where a block does, and these are the digests of their blocks: bytes that follow change none of them
abbrev pub AreWhole : List Digest → List ℕ → Type 0
AreWhole digests bytes = (more : List ℕ) → map digest_of (blocks_of (bytes ++ more)) ≡ digests ++ map digest_of (blocks_of more)

-- the bytes are whole blocks, whose digests stand, and less than a block, whose hash is running; where a digest is still
-- to come there is room for it
pub record HasHashed (b : Blocks) (bytes : List ℕ) : Type 0 where
  pub whole : List ℕ
  pub rest : List ℕ
  pub all : bytes ≡ whole ++ rest
  pub digests : AreWhole b.digests.items whole
  pub running : Holds256 b.running rest
  pub fill : length rest ≡ b.fill
  pub short : b.fill < BLOCK
  pub room : 0 < b.fill → vec_len b.digests < vec_capacity b.digests
