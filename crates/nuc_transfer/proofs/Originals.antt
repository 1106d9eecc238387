-- What stands under the digests of a file's blocks is these blocks, or a collision.
use Rattle.std.proofs.Common.{◌≡◌, ◌⊎◌, ℕ, zero, suc, ◌*◌, ◌≤◌, cond, not, List, [], ◌∷◌, ◌++◌, length, map, take, drop, Option, Some, None, is_some, refl, ap, sym, subst, ◌∙◌, inl, inr, true≢false, arith, length-drop}
use Rattle.std.specs.List.{flat_map}
use Rattle.std.specs.Option.{unwrap_or}
use Rattle.std.specs.Simd.{first_chunks}
use Rattle.std.specs.Str.{bytes_eq}
use Rattle.std.proofs.lemmas.Bool.{cases_Bool}
use Rattle.std.proofs.lemmas.List.{nil_from_length, take-append-drop}
use Rattle.std.proofs.lemmas.Slice.Eq.{bytes_eq-Decides}
use Rattle.nuc_blocks.specs.Blocks.{AreBlocks, Blocks, assembled, block_of, first_missing}
use Rattle.nuc_blocks.proofs.Contents.{assembles_contents}
use Rattle.nuc_blocks.proofs.Formed.{found_block}
use Rattle.nuc_hash.specs.Content.{ContentData, blocks_of, content_of, digest_of, pieces}
use Rattle.nuc_hash.specs.declared.content.TheConstants.{BLOCK}
use Rattle.nuc_hash.specs.declared.digest.Digest.{Digest}
use Rattle.nuc_transfer.specs.Transfer.{Collision, HasItsContent, IsOriginal}

-- the pieces, one after the other
abbrev all_of : List (List ℕ) → List ℕ
all_of ps = flat_map (λ (p : List ℕ). p) ps

-- pieces that are enough are all there is
all_chunks : (n k : ℕ) (xs : List ℕ) → length xs ≤ k * n → all_of (first_chunks n k xs) ≡ xs
all_chunks n zero xs short = sym (nil_from_length xs (omega (arith, short)))
all_chunks n (suc k) xs short =
    let left = length-drop n xs in
    ap (λ ys. take n xs ++ ys) (all_chunks n k (drop n xs) (omega (arith, short, left))) ∙ take-append-drop n xs

all_blocks : (bytes : List ℕ) → all_of (blocks_of bytes) ≡ bytes
unfolding blocks_of pieces
all_blocks bytes = all_chunks BLOCK _ bytes (omega arith)

-- where no digest is missing, the first one isn't, nor is one of the others
first_kept : (o : Option (List ℕ)) (digest : Digest) (rest : Option Digest) → cond (not (is_some o)) (Some digest) rest ≡ None
    → (o ≡ Some (unwrap_or o [])) × (rest ≡ None)
first_kept None digest rest none = absurd (true≢false (ap is_some none))
first_kept (Some bytes) digest rest none = (refl, none)

same_block : (blocks : Blocks) → AreBlocks blocks → (p kept : List ℕ) → block_of blocks (digest_of p) ≡ Some kept → (kept ≡ p) ⊎ Collision
same_block blocks formed p kept at =
    let is = found_block blocks formed.each (digest_of p) kept at in
    elim (cases_Bool (bytes_eq kept p)) [
      | inl same ↦ inl ((bytes_eq-Decides kept p).0 same)
      | inr other ↦ inr (record { one = kept; other = p; apart = λ same. true≢false (sym ((bytes_eq-Decides kept p).1 same) ∙ other); same = is.hashed })
    ]

pieces_back : (blocks : Blocks) → AreBlocks blocks → (ps : List (List ℕ)) → first_missing blocks (map digest_of ps) ≡ None
    → (assembled blocks (map digest_of ps) ≡ all_of ps) ⊎ Collision
pieces_back blocks formed [] none = inl refl
pieces_back blocks formed (p ∷ ps) none =
    let kept = first_kept (block_of blocks (digest_of p)) (digest_of p) (first_missing blocks (map digest_of ps)) none in
    elim (same_block blocks formed p (unwrap_or (block_of blocks (digest_of p)) []) kept.0) [
      | inr two ↦ inr two
      | inl first ↦ elim (pieces_back blocks formed ps kept.1) [
        | inr two ↦ inr two
        | inl others ↦ inl (λ i. first i ++ others i)
      ]
    ]

pub comes_back : (blocks : Blocks) → AreBlocks blocks → (original : List ℕ) → first_missing blocks (content_of original).blocks ≡ None
    → (assembled blocks (content_of original).blocks ≡ original) ⊎ Collision
unfolding content_of
comes_back blocks formed original none =
    elim (pieces_back blocks formed (blocks_of original) none) [
      | inr two ↦ inr two
      | inl all ↦ inl (all ∙ all_blocks original)
    ]

module _ (blocks : Blocks) (formed : AreBlocks blocks) (digests list : List Digest) (same : digests ≡ list) (none : first_missing blocks digests ≡ None) (bytes : List ℕ) (is : bytes ≡ assembled blocks digests) where
  pub original_back : (content : ContentData) → list ≡ content.blocks → IsOriginal content bytes
  original_back content of original made =
      let at : digests ≡ (content_of original).blocks = same ∙ of ∙ ap (λ (c : ContentData). c.blocks) made in
      elim (comes_back blocks formed original (subst (λ (ds : List Digest). first_missing blocks ds ≡ None) at none)) [
        | inr two ↦ inr two
        | inl back ↦ inl (is ∙ ap (assembled blocks) at ∙ back)
      ]

  pub content_back : HasItsContent blocks list bytes
  content_back cut =
      let all : bytes ≡ assembled blocks list = is ∙ ap (assembled blocks) same in
      rw all (assembles_contents blocks formed list (subst (λ (ds : List Digest). first_missing blocks ds ≡ None) same none) cut)
