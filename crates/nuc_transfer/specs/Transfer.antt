-- What a download gives.
use Rattle.std.specs.Prelude.{◌≡◌, ◌≢◌, ◌⊎◌, ℕ, List, length}
use Rattle.nuc_blocks.specs.Blocks.{Blocks}
use Rattle.nuc_blocks.specs.Laws.{AreCut}
use Rattle.nuc_hash.specs.Content.{ContentData, content_of, digest_of, joined}
use Rattle.nuc_hash.specs.declared.digest.Digest.{Digest}

-- two lists of bytes that have one SHA-256
pub record Collision : Type 0 where
  pub one : List ℕ
  pub other : List ℕ
  pub apart : one ≢ other
  pub same : digest_of one ≡ digest_of other

-- the bytes are those that the content was made of, or a collision is there to be shown
abbrev pub IsOriginal : ContentData → List ℕ → Type 0
IsOriginal content bytes = (original : List ℕ) → content ≡ content_of original → (bytes ≡ original) ⊎ Collision

-- where the blocks of these digests are such as a file is cut into, the bytes have these blocks
abbrev pub HasItsContent : Blocks → List Digest → List ℕ → Type 0
HasItsContent blocks digests bytes = AreCut blocks digests
    → content_of bytes ≡ record { hash = digest_of (joined digests); size = length bytes; blocks = digests }
