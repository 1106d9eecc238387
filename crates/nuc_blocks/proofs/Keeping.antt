-- How blocks come off the front of the bytes of a file, and are stored.
use Rattle.std.proofs.Common.{◌≡◌, ◌+◌, ◌-◌, ◌<◌, ◌≤◌, ℕ, min, List, [], ◌∷◌, ◌++◌, length, take, drop, get_or, map, refl, sym, ap, subst, ◌∙◌, arith, append_assoc, append-nil, length-take-le, length-drop}
use Rattle.std.proofs.lemmas.List.{drop_more, nil_from_length, take-append-drop}
use Rattle.nuc_blocks.specs.Blocks.{Blocks, stored}
use Rattle.nuc_blocks.specs.Pieces.{all_stored}
use Rattle.nuc_blocks.proofs.Stored.{all_stored-append}
use Rattle.nuc_hash.specs.Content.{blocks_of, digest_of}
use Rattle.nuc_hash.specs.declared.content.TheConstants.{BLOCK}
use Rattle.nuc_hash.specs.declared.digest.Digest.{Digest}
use Rattle.nuc_hash.proofs.Pieces.{blocks_of-none, blocks_of-append}

-- where a digest is left, bytes are
some_left : (bytes : List ℕ) (d : Digest) (ds : List Digest) → d ∷ ds ≡ map digest_of (blocks_of bytes) → 0 < length bytes
some_left [] d ds same =
    let both : d ∷ ds ≡ [] = same ∙ ap (map digest_of) blocks_of-none in
    absurd (let e = both in cc)
some_left (b ∷ bytes) d ds same = omega arith

module _ (digests : List Digest) (i : ℕ) (rest : List ℕ) (d : Digest) (n : ℕ) (more : i < length digests) (left : drop i digests ≡ map digest_of (blocks_of rest)) (is : n ≡ min (length rest) BLOCK) where
  some : 0 < length rest
  some = some_left rest (get_or digests i d) (drop (i + 1) digests) (sym (drop_more digests i d more) ∙ left)

  size : length (take n rest) ≡ n
  size = length-take-le n rest (omega (arith, is))

  pub first_block : blocks_of rest ≡ take n rest ∷ blocks_of (drop n rest)
  first_block =
      let whole = take-append-drop n rest in
      let total : length (take n rest ++ drop n rest) ≡ length rest = ap length whole in
      let full : length (take n rest) ≡ min BLOCK (length (take n rest ++ drop n rest)) = (let few = size in omega (arith, total, few, is)) in
      let any : 0 < length (take n rest ++ drop n rest) = (let rests = some in omega (arith, total, rests)) in
      subst (λ (all : List ℕ). blocks_of all ≡ take n rest ∷ blocks_of (drop n rest)) whole (blocks_of-append (take n rest) (drop n rest) any full)

  both : get_or digests i d ∷ drop (i + 1) digests ≡ digest_of (take n rest) ∷ map digest_of (blocks_of (drop n rest))
  both = sym (drop_more digests i d more) ∙ left ∙ ap (map digest_of) first_block

  pub first_digest : digest_of (take n rest) ≡ get_or digests i d
  first_digest = let same = both in cc

  pub other_digests : drop (i + 1) digests ≡ map digest_of (blocks_of (drop n rest))
  other_digests = let same = both in cc

  pub first_fits : length (take n rest) ≤ BLOCK
  first_fits = let few = size in omega (arith, few, is)

  -- the front grows by the first block that is left
  pub more_split : (pieces front : List (List ℕ)) → pieces ≡ front ++ blocks_of rest → pieces ≡ (front ++ take n rest ∷ []) ++ blocks_of (drop n rest)
  more_split pieces front all =
      all ∙ ap (λ (ps : List (List ℕ)). front ++ ps) first_block ∙ sym (append_assoc front (take n rest ∷ []) (blocks_of (drop n rest)))

  pub more_stored : (front : List (List ℕ)) (first before after : Blocks) → before ≡ all_stored front first → after ≡ stored (get_or digests i d) (take n rest) before
      → after ≡ all_stored (front ++ take n rest ∷ []) first
  more_stored front first before after are same =
      same ∙ ap (λ (e : Digest). stored e (take n rest) before) (sym first_digest)
      ∙ ap (stored (digest_of (take n rest)) (take n rest)) are
      ∙ sym (all_stored-append front (take n rest ∷ []) first)

no_digest : (ps : List (List ℕ)) → map digest_of ps ≡ [] → ps ≡ []
no_digest [] none = refl
no_digest (p ∷ ps) none = cc

-- where no digest is left, all pieces are in front
pub none_left : (digests : List Digest) (i : ℕ) (rest : List ℕ) (pieces front : List (List ℕ)) → length digests ≤ i → drop i digests ≡ map digest_of (blocks_of rest)
    → pieces ≡ front ++ blocks_of rest → pieces ≡ front
none_left digests i rest pieces front end left all =
    let none : drop i digests ≡ [] = nil_from_length (drop i digests) (length-drop i digests ∙ (let z : length digests - i ≡ 0 = omega arith in z)) in
    all ∙ ap (λ (ps : List (List ℕ)). front ++ ps) (no_digest (blocks_of rest) (sym left ∙ none)) ∙ append-nil front
