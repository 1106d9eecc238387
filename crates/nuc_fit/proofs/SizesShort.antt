-- What is short: bytes that a file can have, a content of at most as many blocks as these take, and the blocks of a store.
use Rattle.std.specs.Prelude.{All, IfSome, if◌then◌else◌, option_map, unwrap_or}
use Rattle.std.proofs.Common.{◌≡◌, ◌-◌, ◌+◌, ◌*◌, ◌/◌, ◌≤◌, ℕ, zero, suc, true, false, cond, List, [], ◌∷◌, ◌++◌, length, drop, take, Option, Some, None, arith, length-append, length-take}
use Rattle.std.proofs.lemmas.List.Elements.{All-append, All-cons, All-head, All-nil, All-tail}
use Rattle.std.specs.FinMap.{get}
use Rattle.std.specs.Simd.{first_chunks}
use Rattle.std.specs.Str.{bytes_eq}
use Rattle.nuc_blocks.specs.Blocks.{Blocks, assembled, block_of, is_missing, stored}
use Rattle.nuc_blocks.specs.Pieces.{all_stored}
use Rattle.nuc_folder.specs.State.{FolderState}
use Rattle.nuc_hash.specs.Content.{ContentData, blocks_of, content_of, digest_of, pieces}
use Rattle.nuc_hash.specs.declared.content.TheConstants.{BLOCK}
use Rattle.nuc_hash.specs.declared.digest.Digest.{Digest}
use Rattle.nuc_hash.proofs.Sizes.{count-content_of, size-content_of}
use Rattle.nuc_observe.specs.Listing.{IsShort}
use Rattle.nuc_observe.specs.declared.item_size.TheConstants.{MOST_BYTES}

-- bytes that a file can have
abbrev pub AreFew : List ℕ → Type 0
AreFew bytes = length bytes ≤ MOST_BYTES

-- each file of a folder has so few bytes
abbrev pub FilesAreShort : FolderState → Type 0
FilesAreShort s = (x : ℕ) (bytes : List ℕ) → get s.bytes x ≡ Some bytes → AreFew bytes

-- a content of no more blocks than such a file has
abbrev pub HasFewBlocks : ContentData → Type 0
HasFewBlocks content = length content.blocks ≤ 16

-- a block of a store isn't longer than a block can be
abbrev pub IsShortBlock : List ℕ × List ℕ → Type 0
IsShortBlock block = length block.1 ≤ BLOCK

-- A CONTENT
pub few_is_short : (bytes : List ℕ) → AreFew bytes → IsShort (Some (content_of bytes))
few_is_short bytes few = let size = size-content_of bytes in omega (arith, size, few)

pub few_blocks : (bytes : List ℕ) → AreFew bytes → HasFewBlocks (content_of bytes)
few_blocks bytes few = let count = count-content_of bytes in omega (arith, count, few)

pub few_blocks_of : (o : Option (List ℕ)) → IfSome o AreFew → IfSome (option_map content_of o) HasFewBlocks
few_blocks_of None few = tt
few_blocks_of (Some bytes) few = few_blocks bytes few

-- ASSEMBLED BYTES are at most as many as that many blocks can have
found_short : (blocks : Blocks) (digest : Digest) → All IsShortBlock blocks → length (unwrap_or (block_of blocks digest) []) ≤ BLOCK
found_short [] digest all = omega arith
found_short (b ∷ blocks) digest all = elim (bytes_eq digest.0 b.0) as (λ t. length (unwrap_or (cond t (Some b.1) (block_of blocks digest)) []) ≤ BLOCK) [
  | true ↦ All-head IsShortBlock b blocks all
  | false ↦ found_short blocks digest (All-tail IsShortBlock b blocks all)
]

assembled_below : (blocks : Blocks) → All IsShortBlock blocks → (digests : List Digest) → length (assembled blocks digests) ≤ length digests * BLOCK
assembled_below blocks all [] = omega arith
assembled_below blocks all (digest ∷ digests) =
    let first = found_short blocks digest all in
    let rest = assembled_below blocks all digests in
    let total = length-append (unwrap_or (block_of blocks digest) []) (assembled blocks digests) in
    omega (arith, first, rest, total)

pub assembled_few : (blocks : Blocks) → All IsShortBlock blocks → (digests : List Digest) → length digests ≤ 16 → AreFew (assembled blocks digests)
assembled_few blocks all digests few = let below = assembled_below blocks all digests in omega (arith, below, few)

-- STORED PIECES
take_short : (n : ℕ) (bytes : List ℕ) → length (take n bytes) ≤ n
take_short n bytes = let size = length-take n bytes in omega (arith, size)

chunks_short : (n k : ℕ) (bytes : List ℕ) → All (λ (p : List ℕ). length p ≤ n) (first_chunks n k bytes)
chunks_short n zero bytes = All-nil (λ (p : List ℕ). length p ≤ n)
chunks_short n (suc k) bytes =
    All-cons (λ (p : List ℕ). length p ≤ n) (take n bytes) (first_chunks n k (drop n bytes)) (take_short n bytes) (chunks_short n k (drop n bytes))

pieces_short : (bytes : List ℕ) → All (λ (p : List ℕ). length p ≤ BLOCK) (blocks_of bytes)
unfolding blocks_of pieces
pieces_short bytes = chunks_short BLOCK ((length bytes + BLOCK - 1) / BLOCK) bytes

stored_short : (digest : Digest) (bytes : List ℕ) (blocks : Blocks) → length bytes ≤ BLOCK → All IsShortBlock blocks → All IsShortBlock (stored digest bytes blocks)
stored_short digest bytes blocks short all = elim (is_missing blocks digest) as (λ b. All IsShortBlock (if b then blocks ++ (digest.0, bytes) ∷ [] else blocks)) [
  | true ↦ All-append IsShortBlock blocks ((digest.0, bytes) ∷ []) all (All-cons IsShortBlock (digest.0, bytes) [] short (All-nil IsShortBlock))
  | false ↦ all
]

all_stored_short : (ps : List (List ℕ)) (blocks : Blocks) → All (λ (p : List ℕ). length p ≤ BLOCK) ps → All IsShortBlock blocks → All IsShortBlock (all_stored ps blocks)
all_stored_short [] blocks short all = all
all_stored_short (p ∷ ps) blocks short all =
    all_stored_short ps (stored (digest_of p) p blocks) (All-tail (λ (p : List ℕ). length p ≤ BLOCK) p ps short)
    (stored_short (digest_of p) p blocks (All-head (λ (p : List ℕ). length p ≤ BLOCK) p ps short) all)

-- whatever bytes are stored, their blocks are short
pub bytes_stored : (bytes : List ℕ) (blocks : Blocks) → All IsShortBlock blocks → All IsShortBlock (all_stored (blocks_of bytes) blocks)
bytes_stored bytes blocks all = all_stored_short (blocks_of bytes) blocks (pieces_short bytes) all
