-- Each block of a store is of its digest.
use Rattle.std.proofs.Common.{◌≡◌, ℕ, List, [], ◌∷◌, ◌++◌, Option, Some, None, All, is_some, unwrap_or, ap, ◌∙◌, sym, subst, inl, inr, true≢false}
use Rattle.std.specs.List.{IsDistinct}
use Rattle.std.specs.Map.{keys_of}
use Rattle.std.specs.Str.{bytes_eq}
use Rattle.std.proofs.lemmas.Bool.{cases_Bool, cond-true, cond-false}
use Rattle.std.proofs.lemmas.List.Elements.{All-head, All-push, All-tail}
use Rattle.std.proofs.lemmas.Slice.Eq.{bytes_eq-Decides}
use Rattle.indexmap.specs.IndexMap.{IndexMap, insert_entry}
use Rattle.indexmap.proofs.CallerLemmas.{insert_entry-new}
use Rattle.nuc_hash.specs.declared.digest.Digest.{Digest}
use Rattle.nuc_blocks.specs.Blocks.{AreBlocks, Blocks, IsBlock, block_of}

abbrev pub IsEntry : List ℕ × List ℕ → Type 0
IsEntry block = IsBlock (record { 0 = block.0 }) block.1

-- a block that is found in such a list is of the digest by which it was asked for
pub found_block : (blocks : Blocks) → All IsEntry blocks → (digest : Digest) (bytes : List ℕ) → block_of blocks digest ≡ Some bytes → IsBlock digest bytes
found_block [] each digest bytes found = absurd (true≢false (sym (ap is_some found)))
found_block (b ∷ bs) each digest bytes found =
    elim (cases_Bool (bytes_eq digest.0 b.0)) [
      | inl same ↦
          let name : record { 0 = b.0 } ≡ digest = sym (ap (λ (x : List ℕ). record { 0 = x }) ((bytes_eq-Decides digest.0 b.0).0 same)) in
          let here : b.1 ≡ bytes = ap (λ (o : Option (List ℕ)). unwrap_or o bytes) (sym (cond-true (bytes_eq digest.0 b.0) (Some b.1) (block_of bs digest) same) ∙ found) in
          subst (λ (x : List ℕ). IsBlock digest x) here (subst (λ (d : Digest). IsBlock d b.1) name (All-head IsEntry b bs each))
      | inr other ↦
          found_block bs (All-tail IsEntry b bs each) digest bytes (sym (cond-false (bytes_eq digest.0 b.0) (Some b.1) (block_of bs digest) other) ∙ found)
    ]

-- a new block goes last
pub inserted : {S : Type 0} (m : IndexMap (List ℕ) (List ℕ) S) (now after : Blocks) (digest : Digest) (bytes : List ℕ) → m.entries ≡ now → block_of now digest ≡ None
    → after ≡ insert_entry bytes_eq m.entries digest.0 bytes → after ≡ m.entries ++ (digest.0, bytes) ∷ []
inserted m now after digest bytes same missing made =
    made ∙ insert_entry-new bytes_eq m digest.0 bytes (ap (λ (blocks : Blocks). block_of blocks digest) same ∙ missing)

-- and all are of their digests still
pub formed_more : (before after : Blocks) (digest : Digest) (bytes : List ℕ) → AreBlocks before → IsBlock digest bytes
    → after ≡ before ++ (digest.0, bytes) ∷ [] → IsDistinct bytes_eq (keys_of after) → AreBlocks after
formed_more before after digest bytes formed block all distinct =
    let each = All-push IsEntry before (digest.0, bytes) formed.each block in
    record { each = subst (λ (blocks : Blocks). All IsEntry blocks) (sym all) each; distinct = distinct }
