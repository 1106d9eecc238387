-- How the pieces of a list come off its front.
use Rattle.std.proofs.Common.{◌≡◌, ℕ, suc, ◌+◌, ◌-◌, ◌*◌, ◌/◌, ◌<◌, min, List, [], ◌∷◌, ◌++◌, length, take, drop, refl, subst, inl, inr, arith, length-append, append-nil}
use Rattle.std.proofs.Math.Nat.{add-div_left}
use Rattle.std.proofs.lemmas.Nat.{div-mul-add}
use Rattle.std.proofs.lemmas.Bool.{cases_lt}
use Rattle.std.proofs.lemmas.List.{nil_from_length, take_all}
use Rattle.std.proofs.Math.Seq.{take-append_seam, drop-append_seam}
use Rattle.nuc_hash.specs.Content.{pieces, blocks_of}
use Rattle.nuc_hash.specs.declared.content.TheConstants.{BLOCK}

-- a whole piece more is one piece more
count_whole : (n r : ℕ) → 0 < n → (n + r + n - 1) / n ≡ suc ((r + n - 1) / n)
count_whole n r some =
    let shape : n + r + n - 1 ≡ n + (r + n - 1) = omega arith in
    rw (shape, add-div_left (r + n - 1) some) (omega arith)

-- fewer elements than a piece has are one piece
count_short : (n b : ℕ) → 0 < b → b < n → (b + n - 1) / n ≡ 1
count_short n b some short =
    let shape : b + n - 1 ≡ 1 * n + (b - 1) = omega arith in
    rw shape (div-mul-add 1 n (b - 1) (omega arith))

-- no elements have no piece
count_none : (n : ℕ) → 0 < n → (0 + n - 1) / n ≡ 0
count_none n some =
    let shape : 0 + n - 1 ≡ 0 * n + (n - 1) = omega arith in
    rw shape (div-mul-add 0 n (n - 1) (omega arith))

pub pieces-none : (n : ℕ) → 0 < n → pieces n [] ≡ []
unfolding pieces
pieces-none n some = rw (count_none n some) refl

-- where less than a piece is left, that is the only one
pieces_short : (n : ℕ) (piece : List ℕ) → 0 < length piece → length piece < n → pieces n piece ≡ piece ∷ []
unfolding pieces
pieces_short n piece some short = rw (count_short n (length piece) some short, take_all n piece (omega arith)) refl

-- a whole piece comes off the front
pieces_whole : (n : ℕ) (piece rest : List ℕ) → 0 < n → length piece ≡ n → pieces n (piece ++ rest) ≡ piece ∷ pieces n rest
unfolding pieces
pieces_whole n piece rest positive whole =
    let count : (length (piece ++ rest) + n - 1) / n ≡ suc ((length rest + n - 1) / n) = rw (length-append piece rest, whole) (count_whole n (length rest) positive) in
    let front : take n (piece ++ rest) ≡ piece = subst (λ (k : ℕ). take k (piece ++ rest) ≡ piece) whole (take-append_seam piece rest) in
    let back : drop n (piece ++ rest) ≡ rest = subst (λ (k : ℕ). drop k (piece ++ rest) ≡ rest) whole (drop-append_seam piece rest) in
    rw (count, front, back) refl

-- the first piece comes off the front, and the others are the pieces of what is left
pub pieces-append : (n : ℕ) (piece rest : List ℕ) → 0 < n → 0 < length (piece ++ rest) → length piece ≡ min n (length (piece ++ rest))
    → pieces n (piece ++ rest) ≡ piece ∷ pieces n rest
pieces-append n piece rest positive some size =
    let total = length-append piece rest in
    elim (cases_lt (length (piece ++ rest)) n) [
      | inl short ↦
          let none : rest ≡ [] = nil_from_length rest (omega (arith, total, size)) in
          rw (none, append-nil piece, pieces-none n positive) (pieces_short n piece (omega (arith, total, size)) (omega (arith, total, size)))
      | inr whole ↦ pieces_whole n piece rest positive (omega (arith, size))
    ]

pub blocks_of-none : blocks_of [] ≡ []
unfolding blocks_of
blocks_of-none = pieces-none BLOCK (omega arith)

pub blocks_of-append : (block rest : List ℕ) → 0 < length (block ++ rest) → length block ≡ min BLOCK (length (block ++ rest))
    → blocks_of (block ++ rest) ≡ block ∷ blocks_of rest
unfolding blocks_of
blocks_of-append block rest some size = pieces-append BLOCK block rest (omega arith) some size
