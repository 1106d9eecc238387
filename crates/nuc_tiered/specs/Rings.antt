-- A list in blocks of 512 cells, each a ring that starts at its own head.
use Rattle.std.specs.Prelude.{◌≡◌, ◌<◌, ◌≤◌, ◌+◌, ◌*◌, ◌/◌, ◌%◌, ℕ, List, length, map, slice_index}
use Rattle.std.specs.List.{range_with_len}

-- the cell in which the item at a position stands
unfoldable pub cell : List ℕ → ℕ → ℕ
cell heads p = p / 512 * 512 + (slice_index heads (p / 512) + p % 512) % 512

-- what stands at all positions, one after the other
unfoldable pub row : List ℕ → List ℕ → List ℕ
row cells heads = map (λ p. slice_index cells (cell heads p)) (range_with_len 0 (length cells))

-- each head is a place in its block
abbrev pub AreHeads : List ℕ → Type 0
AreHeads heads = (k : ℕ) → slice_index heads k < 512

-- whole blocks, each with its head
pub record IsRings (cells heads : List ℕ) : Type 0 where
  pub blocks : length cells ≡ 512 * length heads
  pub in_blocks : AreHeads heads

-- so many of the positions hold items, the others are room
pub record IsTiered (cells heads : List ℕ) (len : ℕ) : Type 0 where
  pub rings : IsRings cells heads
  pub within : len ≤ length cells
