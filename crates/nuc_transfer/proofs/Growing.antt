-- A store that is added to has no fewer blocks than before.
use Rattle.std.proofs.Common.{ℕ, ◌≤◌, Bool, true, false, if◌then◌else◌, List, [], ◌∷◌, ◌++◌, length, arith, length-append}
use Rattle.nuc_blocks.specs.Blocks.{Blocks, is_missing, stored}
use Rattle.nuc_blocks.specs.Pieces.{all_stored}
use Rattle.nuc_hash.specs.Content.{digest_of}
use Rattle.nuc_hash.specs.declared.digest.Digest.{Digest}

grows_once : (digest : Digest) (bytes : List ℕ) (blocks : Blocks) → length blocks ≤ length (stored digest bytes blocks)
grows_once digest bytes blocks = by (is_missing blocks digest)
  where
    by : (b : Bool) → length blocks ≤ length (if b then blocks ++ (digest.0, bytes) ∷ [] else blocks)
    by true = let total = length-append blocks ((digest.0, bytes) ∷ []) in omega (arith, total)
    by false = omega arith

pub grows : (ps : List (List ℕ)) (blocks : Blocks) → length blocks ≤ length (all_stored ps blocks)
grows [] blocks = omega arith
grows (p ∷ ps) blocks =
    let first = grows_once (digest_of p) p blocks in
    let others = grows ps (stored (digest_of p) p blocks) in
    omega (arith, first, others)
