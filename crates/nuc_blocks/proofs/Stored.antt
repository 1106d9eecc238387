-- Once all blocks of a content are stored, none is missing.
use Rattle.std.proofs.Common.{◌≡◌, ℕ, false, cond, not, is_some, List, [], ◌∷◌, ◌++◌, None, Some, map, refl, ap, sym, subst, ◌∙◌}
use Rattle.std.specs.List.{find}
use Rattle.nuc_blocks.specs.Blocks.{Blocks, block_of, first_missing, is_missing, stored}
use Rattle.nuc_blocks.specs.Pieces.{KeepsBlocks, all_stored}
use Rattle.nuc_blocks.proofs.Lookups.{kept_stands, stored_stands}
use Rattle.nuc_hash.specs.Content.{digest_of}
use Rattle.nuc_hash.specs.declared.digest.Digest.{Digest}

pub stands_on : (ps : List (List ℕ)) (blocks : Blocks) (digest : Digest) (bytes : List ℕ) → block_of blocks digest ≡ Some bytes → block_of (all_stored ps blocks) digest ≡ Some bytes
stands_on [] blocks digest bytes at = at
stands_on (p ∷ ps) blocks digest bytes at = stands_on ps (stored (digest_of p) p blocks) digest bytes (kept_stands blocks (digest_of p) p digest bytes at)

stands_now : (blocks : Blocks) (p : List ℕ) → (bytes : List ℕ) × (block_of (stored (digest_of p) p blocks) (digest_of p) ≡ Some bytes)
stands_now blocks p = elim (block_of blocks (digest_of p)) as (λ o. block_of blocks (digest_of p) ≡ o → (bytes : List ℕ) × (block_of (stored (digest_of p) p blocks) (digest_of p) ≡ Some bytes)) [
  | None ↦ λ none. (p, stored_stands blocks (digest_of p) p none)
  | Some bytes ↦ λ at. (bytes, kept_stands blocks (digest_of p) p (digest_of p) bytes at)
] refl

found : (blocks : Blocks) (digest : Digest) (bytes : List ℕ) → block_of blocks digest ≡ Some bytes → is_missing blocks digest ≡ false
found blocks digest bytes at = ap (λ o. not (is_some o)) at

pub none_missing : (ps : List (List ℕ)) (blocks : Blocks) → first_missing (all_stored ps blocks) (map digest_of ps) ≡ None
none_missing [] blocks = refl
none_missing (p ∷ ps) blocks =
    let after : Blocks = stored (digest_of p) p blocks in
    let now = stands_now blocks p in
    let there = found (all_stored ps after) (digest_of p) now.0 (stands_on ps after (digest_of p) now.0 now.1) in
    ap (λ b. cond b (Some (digest_of p)) (find (is_missing (all_stored ps after)) (map digest_of ps))) there ∙ none_missing ps after

pub all_stored-append : (ps qs : List (List ℕ)) (blocks : Blocks) → all_stored (ps ++ qs) blocks ≡ all_stored qs (all_stored ps blocks)
all_stored-append [] qs blocks = refl
all_stored-append (p ∷ ps) qs blocks = all_stored-append ps qs (stored (digest_of p) p blocks)

pub keeps : (ps : List (List ℕ)) (before after : Blocks) → after ≡ all_stored ps before → KeepsBlocks before after
keeps ps before after same digest bytes at = subst (λ (blocks : Blocks). block_of blocks digest ≡ Some bytes) (sym same) (stands_on ps before digest bytes at)
