-- How the digests of the blocks come as the bytes do.
use Rattle.std.proofs.Common.{◌≡◌, ℕ, ◌<◌, min, List, [], ◌∷◌, ◌++◌, length, map, refl, ◌∙◌, ap, sym, arith, append_assoc, append-nil, length-append}
use Rattle.nuc_hash.specs.Content.{blocks_of, digest_of}
use Rattle.nuc_hash.specs.Hashing.{AreWhole}
use Rattle.nuc_hash.specs.declared.content.TheConstants.{BLOCK}
use Rattle.nuc_hash.specs.declared.digest.Digest.{Digest}
use Rattle.nuc_hash.proofs.Pieces.{blocks_of-none, blocks_of-append}

-- a block that is full adds its digest
pub whole_more : (digests : List Digest) (whole block : List ℕ) → AreWhole digests whole → length block ≡ BLOCK
    → AreWhole (digests ++ digest_of block ∷ []) (whole ++ block)
whole_more digests whole block are full more =
    let total = length-append block more in
    let some : 0 < length (block ++ more) = omega (arith, total, full) in
    let size : length block ≡ min BLOCK (length (block ++ more)) = omega (arith, total, full) in
    let split : map digest_of (blocks_of (block ++ more)) ≡ digest_of block ∷ map digest_of (blocks_of more) =
    ap (map digest_of) (blocks_of-append block more some size) in
    rw (append_assoc whole block more, are (block ++ more), split, append_assoc digests (digest_of block ∷ []) (map digest_of (blocks_of more))) refl

-- whole blocks alone have these digests
pub whole_end : (digests : List Digest) (whole : List ℕ) → AreWhole digests whole → digests ≡ map digest_of (blocks_of whole)
whole_end digests whole are =
    let none : map digest_of (blocks_of []) ≡ [] = ap (map digest_of) blocks_of-none in
    let known = are [] in
    sym (rw (append-nil whole, none, append-nil digests) at known)

-- a short block behind them adds its digest
pub short_end : (digests : List Digest) (whole rest : List ℕ) → AreWhole digests whole → 0 < length rest → length rest < BLOCK
    → digests ++ digest_of rest ∷ [] ≡ map digest_of (blocks_of (whole ++ rest))
short_end digests whole rest are some short =
    let size : length rest ≡ min BLOCK (length (rest ++ [])) = rw (append-nil rest) (omega (arith, short)) in
    let more : 0 < length (rest ++ []) = rw (append-nil rest) some in
    let front = blocks_of-append rest [] more size in
    let one : blocks_of rest ≡ rest ∷ [] = rw (append-nil rest, blocks_of-none) at front in
    let last : map digest_of (blocks_of rest) ≡ digest_of rest ∷ [] = ap (map digest_of) one in
    sym (are rest ∙ ap (λ xs. digests ++ xs) last)
