use Rattle.std.proofs.Common.{◌≡◌, ℕ, suc, zero, List, length, map, refl, ap, ◌∙◌, arith}
use Rattle.std.specs.Int.{div_ceil}
use Rattle.std.specs.Simd.{first_chunks}
use Rattle.std.proofs.lemmas.List.{length-map}
use Rattle.nuc_hash.specs.Content.{blocks_of, content_of, digest_of, pieces}
use Rattle.nuc_hash.specs.declared.content.TheConstants.{BLOCK}

-- the size of a content is the number of its bytes
pub size-content_of : (bytes : List ℕ) → (content_of bytes).size ≡ length bytes
unfolding content_of
size-content_of bytes = refl

length-first_chunks : (n k : ℕ) (bytes : List ℕ) → length (first_chunks n k bytes) ≡ k
length-first_chunks n zero bytes = refl
length-first_chunks n (suc k) bytes = ap suc (length-first_chunks n k _)

-- a content has as many blocks as bytes of that number take
pub count-content_of : (bytes : List ℕ) → length (content_of bytes).blocks ≡ div_ceil (length bytes) BLOCK
unfolding content_of blocks_of pieces
count-content_of bytes =
    length-map (blocks_of bytes) digest_of ∙ length-first_chunks BLOCK _ bytes ∙ omega arith

-- the digests of a content are those of the blocks of its bytes
pub blocks-content_of : (bytes : List ℕ) → (content_of bytes).blocks ≡ map digest_of (blocks_of bytes)
unfolding content_of
blocks-content_of bytes = refl
