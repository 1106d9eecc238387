-- How the digests of a list come one after the other.
use Rattle.std.proofs.Common.{◌≡◌, ℕ, ◌+◌, ◌<◌, List, [], ◌∷◌, ◌++◌, length, take, get_or, append-nil}
use Rattle.std.proofs.lemmas.List.{take_more}
use Rattle.std.proofs.lemmas.Grind.{flat_map-append}
use Rattle.nuc_hash.specs.Content.{joined}
use Rattle.nuc_hash.specs.declared.digest.Digest.{Digest}

pub joined-take-more : (digests : List Digest) (i : ℕ) (d : Digest) → i < length digests
    → joined (take (i + 1) digests) ≡ joined (take i digests) ++ (get_or digests i d).0
unfolding joined
joined-take-more digests i d below =
    rw (take_more digests i d below, flat_map-append (λ (x : Digest). x.0) (take i digests) (get_or digests i d ∷ []), append-nil (get_or digests i d).0)
