-- Two contents of one hash have the same blocks, or a collision is there to be shown.
use Rattle.std.proofs.Common.{◌≡◌, ◌⊎◌, ℕ, List, [], ◌∷◌, ◌++◌, length, map, take, drop, refl, sym, ◌∙◌, ap, inl, inr, true≢false, arith}
use Rattle.std.proofs.Math.Seq.{drop-append_seam, take-append_seam}
use Rattle.std.proofs.lemmas.Bool.{cases_Bool}
use Rattle.std.proofs.lemmas.Slice.Eq.{bytes_eq-Decides}
use Rattle.std.specs.Str.{bytes_eq}
use Rattle.sha2.proofs.Facts256.{length-sha256}
use Rattle.nuc_hash.specs.Content.{blocks_of, content_of, digest_of, joined}
use Rattle.nuc_hash.specs.declared.digest.Digest.{Digest}
use Rattle.nuc_transfer.specs.Transfer.{Collision}

-- FRONTS OF ONE LENGTH
same_front : (xs ys us vs : List ℕ) → length xs ≡ length ys → xs ++ us ≡ ys ++ vs → xs ≡ ys
same_front xs ys us vs long same =
    sym (take-append_seam xs us) ∙ ap (λ (zs : List ℕ). take (length xs) zs) same ∙ ap (λ n. take n (ys ++ vs)) long ∙ take-append_seam ys vs

same_rest : (xs ys us vs : List ℕ) → length xs ≡ length ys → xs ++ us ≡ ys ++ vs → us ≡ vs
same_rest xs ys us vs long same =
    sym (drop-append_seam xs us) ∙ ap (λ (zs : List ℕ). drop (length xs) zs) same ∙ ap (λ n. drop n (ys ++ vs)) long ∙ drop-append_seam ys vs

-- EACH DIGEST has as many bytes
digest_long : (p : List ℕ) → length (digest_of p).0 ≡ 32
unfolding digest_of
digest_long p = length-sha256 p

joined_next : (d : Digest) (ds : List Digest) → joined (d ∷ ds) ≡ d.0 ++ joined ds
unfolding joined
joined_next d ds = refl

joined_none : joined [] ≡ []
unfolding joined
joined_none = refl

some_front : (ys us : List ℕ) → length ys ≡ 32 → [] ≡ ys ++ us → ⊥
some_front [] us long same = absurd (omega (arith, long))
some_front (y ∷ ys) us long same = cc

-- so lists of them that are joined alike are the same
joined_one : (ps qs : List (List ℕ)) → joined (map digest_of ps) ≡ joined (map digest_of qs) → map digest_of ps ≡ map digest_of qs
joined_one [] [] same = refl
joined_one [] (q ∷ qs) same =
    absurd (some_front (digest_of q).0 (joined (map digest_of qs)) (digest_long q) (sym joined_none ∙ same ∙ joined_next (digest_of q) (map digest_of qs)))
joined_one (p ∷ ps) [] same =
    absurd (some_front (digest_of p).0 (joined (map digest_of ps)) (digest_long p) (sym joined_none ∙ sym same ∙ joined_next (digest_of p) (map digest_of ps)))
joined_one (p ∷ ps) (q ∷ qs) same =
    let long : length (digest_of p).0 ≡ length (digest_of q).0 = digest_long p ∙ sym (digest_long q) in
    let both : (digest_of p).0 ++ joined (map digest_of ps) ≡ (digest_of q).0 ++ joined (map digest_of qs) =
    sym (joined_next (digest_of p) (map digest_of ps)) ∙ same ∙ joined_next (digest_of q) (map digest_of qs) in
    let first : digest_of p ≡ digest_of q = ap (λ (xs : List ℕ). record { 0 = xs }) (same_front (digest_of p).0 (digest_of q).0 _ _ long both) in
    let rest = joined_one ps qs (same_rest (digest_of p).0 (digest_of q).0 _ _ long both) in
    λ i. first i ∷ rest i

-- WHAT A CONTENT IS
blocks_are : (bytes : List ℕ) → (content_of bytes).blocks ≡ map digest_of (blocks_of bytes)
unfolding content_of
blocks_are bytes = refl

hash_is : (bytes : List ℕ) → (content_of bytes).hash ≡ digest_of (joined (map digest_of (blocks_of bytes)))
unfolding content_of
hash_is bytes = refl

pub one_hash : (a b : List ℕ) → (content_of a).hash ≡ (content_of b).hash → ((content_of a).blocks ≡ (content_of b).blocks) ⊎ Collision
one_hash a b same =
    let xs = joined (map digest_of (blocks_of a)) in
    let ys = joined (map digest_of (blocks_of b)) in
    elim (cases_Bool (bytes_eq xs ys)) [
      | inl equal ↦ inl (blocks_are a ∙ joined_one (blocks_of a) (blocks_of b) ((bytes_eq-Decides xs ys).0 equal) ∙ sym (blocks_are b))
      | inr other ↦ inr (record {
        one = xs;
        other = ys;
        apart = λ equal. true≢false (sym ((bytes_eq-Decides xs ys).1 equal) ∙ other);
        same = sym (hash_is a) ∙ same ∙ hash_is b;
      })
    ]
