use Rattle.std.proofs.Common.{◌≡◌, ℕ, ◌+◌, ◌-◌, ◌*◌, ◌<◌, List, ◌++◌, length, vec_len, vec_capacity}
use Rattle.nuc_hash.specs.Hashing.{HasHashed}
use Rattle.nuc_hash.specs.declared.content.TheConstants.{BLOCK}
use Rattle.nuc_hash.proofs.blocks.Blocks.take.Given as goal

abbrev pub invariant-loop-self : goal.invariant-loop-self
invariant-loop-self l = record {
  short : l.self.fill < BLOCK;
  room : l.self.fill + length l.rest < BLOCK * (vec_capacity l.self.digests - vec_len l.self.digests);
  hashed : (before : List ℕ) → HasHashed l.fn.self before
      → (front : List ℕ) × (front ++ l.rest ≡ l.bytes) × HasHashed l.self (before ++ front);
}

abbrev pub decreases-loop-self : goal.decreases-loop-self
decreases-loop-self l = length l.rest
