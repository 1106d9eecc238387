use Rattle.std.proofs.Common.{◌≡◌, ℕ, List, ◌++◌, drop, map}
use Rattle.nuc_hash.specs.Content.{blocks_of, digest_of}
use Rattle.nuc_blocks.specs.Pieces.{all_stored}
use Rattle.nuc_blocks.proofs.keep.keep_blocks.Given as goal

abbrev pub invariant-loop-digest : goal.invariant-loop-digest
invariant-loop-digest l = record {
  left : drop l.digest-index l.digests ≡ map digest_of (blocks_of l.rest);
  part : (front : List (List ℕ)) × (blocks_of l.fn.bytes ≡ front ++ blocks_of l.rest) × (l.store.now ≡ all_stored front l.fn.store.now);
  settled : l.store.settled ≡ l.fn.store.settled;
}
