-- Where the blocks of a file begin.
use Rattle.std.proofs.Common.{◌≡◌, ℕ, zero, suc, ◌+◌, ◌*◌, ◌<◌, min, List, length, take, drop, Some, slice_get, ap, sym, ◌∙◌, inl, inr, arith, drop-drop}
use Rattle.std.specs.Int.{div_ceil}
use Rattle.std.specs.Simd.{first_chunks}
use Rattle.std.proofs.lemmas.List.{length-map, take_all}
use Rattle.std.proofs.lemmas.Bool.{cases_lt}
use Rattle.nuc_hash.proofs.Sizes.{blocks-content_of, count-content_of}
use Rattle.nuc_hash.specs.Content.{blocks_of, digest_of, pieces}
use Rattle.nuc_hash.specs.declared.content.TheConstants.{BLOCK}

pub starts_within : (len i : ℕ) → i < div_ceil len BLOCK → i * BLOCK < len
starts_within len i below = omega (arith, below)

first_chunks-get : (n k i : ℕ) (xs : List ℕ) → i < k → slice_get (first_chunks n k xs) i ≡ Some (take n (drop (i * n) xs))
first_chunks-get n zero i xs below = absurd (omega (arith, below))
first_chunks-get n (suc k) zero xs below =
    let none : 0 ≡ 0 * n = omega arith in
    ap (λ m. Some (take n (drop m xs))) none
first_chunks-get n (suc k) (suc i) xs below =
    let at : n + i * n ≡ suc i * n = omega arith in
    first_chunks-get n k i (drop n xs) (omega (arith, below)) ∙ ap (λ ys. Some (take n ys)) (drop-drop (i * n) n xs ∙ ap (λ m. drop m xs) at)

-- a piece of no more than there is is all of it
short_take : (n m : ℕ) (xs : List ℕ) → m ≡ min (length xs) n → take m xs ≡ take n xs
short_take n m xs size = elim (cases_lt (length xs) n) [
  | inl short ↦ take_all m xs (omega (arith, size, short)) ∙ sym (take_all n xs (omega (arith, short)))
  | inr enough ↦ ap (λ k. take k xs) {x = m} {y = n} (omega (arith, size, enough))
]

block_at : (bytes : List ℕ) (i : ℕ) → i < div_ceil (length bytes) BLOCK → slice_get (blocks_of bytes) i ≡ Some (take BLOCK (drop (i * BLOCK) bytes))
unfolding blocks_of pieces
block_at bytes i below = first_chunks-get BLOCK _ i bytes (omega (arith, below))

-- no more blocks than begin within the bytes
pub count_of : (bytes : List ℕ) → length (blocks_of bytes) ≡ div_ceil (length bytes) BLOCK
count_of bytes = sym (length-map (blocks_of bytes) digest_of) ∙ ap length (sym (blocks-content_of bytes)) ∙ count-content_of bytes

-- the block at an index, of the bytes from its start on
pub block_from : (bytes rest : List ℕ) (i n : ℕ) → i < div_ceil (length bytes) BLOCK → rest ≡ drop (i * BLOCK) bytes → n ≡ min (length rest) BLOCK
    → Some (take n rest) ≡ slice_get (blocks_of bytes) i
block_from bytes rest i n below is size =
    ap Some (short_take BLOCK n rest size ∙ ap (take BLOCK) is) ∙ sym (block_at bytes i below)
