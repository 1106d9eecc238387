-- What content the blocks of a list give.
use Rattle.std.proofs.Common.{◌≡◌, ℕ, ◌<◌, ◌≤◌, min, cond, not, List, [], ◌∷◌, ◌++◌, length, map, Option, Some, None, is_some, refl, ap, ◌∙◌, true≢false, arith, length-append}
use Rattle.std.specs.Option.{unwrap_or}
use Rattle.nuc_hash.specs.Content.{blocks_of, content_of, digest_of, joined}
use Rattle.nuc_hash.specs.declared.content.TheConstants.{BLOCK}
use Rattle.nuc_hash.specs.declared.digest.Digest.{Digest}
use Rattle.nuc_hash.proofs.Pieces.{blocks_of-append, blocks_of-none}
use Rattle.nuc_blocks.specs.Blocks.{AreBlocks, Blocks, assembled, block_of, first_missing}
use Rattle.nuc_blocks.specs.Laws.{AreCut, IsCutBefore}
use Rattle.nuc_blocks.proofs.Formed.{found_block}

-- the bytes of one block of the list
abbrev bytes_at : Blocks → Digest → List ℕ
bytes_at blocks digest = unwrap_or (block_of blocks digest) []

-- where no digest is missing, the first one isn't, nor is one of the others
first_kept : (o : Option (List ℕ)) (digest : Digest) (rest : Option Digest) → cond (not (is_some o)) (Some digest) rest ≡ None
    → (o ≡ Some (unwrap_or o [])) × (rest ≡ None)
first_kept None digest rest none = absurd (true≢false (ap is_some none))
first_kept (Some bytes) digest rest none = (refl, none)

-- a block that is cut before the rest is the first piece of the bytes
cut_size : (blocks : Blocks) (rest : List Digest) (block : List ℕ) → IsCutBefore rest (length block) → length block ≤ BLOCK
    → (0 < length (block ++ assembled blocks rest)) × (length block ≡ min BLOCK (length (block ++ assembled blocks rest)))
cut_size blocks [] block cut short =
    let total = length-append block (assembled blocks []) in
    (omega (arith, total, cut), omega (arith, total, cut, short))
cut_size blocks (next ∷ rest) block cut short =
    let total = length-append block (assembled blocks (next ∷ rest)) in
    (omega (arith, total, cut), omega (arith, total, cut))

pub assembled_digests : (blocks : Blocks) → AreBlocks blocks → (list : List Digest) → first_missing blocks list ≡ None → AreCut blocks list
    → map digest_of (blocks_of (assembled blocks list)) ≡ list
assembled_digests blocks formed [] none cut = ap (map digest_of) blocks_of-none
assembled_digests blocks formed (digest ∷ rest) none cut =
    let block = bytes_at blocks digest in
    let kept = first_kept (block_of blocks digest) digest (first_missing blocks rest) none in
    let is = found_block blocks formed.each digest block kept.0 in
    let size = cut_size blocks rest block cut.0 is.short in
    let pieces = ap (map digest_of) (blocks_of-append block (assembled blocks rest) size.0 size.1) in
    let others = assembled_digests blocks formed rest kept.1 cut.1 in
    pieces ∙ (λ i. is.hashed i ∷ others i)

pub assembles_contents : (blocks : Blocks) → AreBlocks blocks → (list : List Digest) → first_missing blocks list ≡ None → AreCut blocks list
    → content_of (assembled blocks list) ≡ record { hash = digest_of (joined list); size = length (assembled blocks list); blocks = list }
unfolding content_of
assembles_contents blocks formed list none cut =
    let same = assembled_digests blocks formed list none cut in
    λ i. record { hash = digest_of (joined (same i)); size = length (assembled blocks list); blocks = same i }
