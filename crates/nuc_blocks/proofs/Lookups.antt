-- What stored bytes are to a look-up.
use Rattle.std.proofs.Common.{◌≡◌, ◌≢◌, ℕ, Bool, true, false, cond, not, if◌then◌else◌, List, [], ◌∷◌, ◌++◌, Option, Some, None, is_some, refl, ap, ◌∙◌, inl, inr}
use Rattle.std.specs.Map.{lookup}
use Rattle.std.specs.Option.{option_or}
use Rattle.std.specs.Str.{bytes_eq}
use Rattle.std.proofs.lemmas.Bool.{cases_Bool, cond-true, cond-false}
use Rattle.std.proofs.lemmas.Slice.Eq.{bytes_eq-Decides}
use Rattle.nuc_hash.specs.declared.digest.Digest.{Digest}
use Rattle.nuc_blocks.specs.Blocks.{Blocks, block_of, is_missing, stored}

-- a choice before a second look-up
pick : {X : Type 0} (b : Bool) (x : X) (all front back : Option X) → all ≡ option_or front back → cond b (Some x) all ≡ option_or (cond b (Some x) front) back
pick true x all front back same = refl
pick false x all front back same = same

-- what stands in front is found first
lookup-append : {K X : Type 0} (test : K → Bool) (es fs : List (K × X)) → lookup test (es ++ fs) ≡ option_or (lookup test es) (lookup test fs)
lookup-append test [] fs = refl
lookup-append test (e ∷ es) fs = pick (test e.0) e.1 _ _ _ (lookup-append test es fs)

or_none : {X : Type 0} (o : Option X) → option_or o None ≡ o
or_none None = refl
or_none (Some x) = refl

-- another digest has other bytes
other_bytes : (digest other : Digest) → other ≢ digest → bytes_eq other.0 digest.0 ≡ false
other_bytes digest other apart =
    elim (cases_Bool (bytes_eq other.0 digest.0)) [
      | inl same ↦ absurd (apart (ap (λ (bytes : List ℕ). record { 0 = bytes }) ((bytes_eq-Decides other.0 digest.0).0 same)))
      | inr differs ↦ differs
    ]

-- where nothing stood, the bytes go last
pub stored_new : (digest : Digest) (bytes : List ℕ) (blocks : Blocks) → block_of blocks digest ≡ None → stored digest bytes blocks ≡ blocks ++ (digest.0, bytes) ∷ []
stored_new digest bytes blocks none = ap (λ (o : Option (List ℕ)). if not (is_some o) then blocks ++ (digest.0, bytes) ∷ [] else blocks) none

pub stored_stands : (blocks : Blocks) (digest : Digest) (bytes : List ℕ) → block_of blocks digest ≡ None → block_of (stored digest bytes blocks) digest ≡ Some bytes
stored_stands blocks digest bytes none =
    ap (λ (all : Blocks). block_of all digest) (stored_new digest bytes blocks none)
    ∙ lookup-append (bytes_eq digest.0) blocks ((digest.0, bytes) ∷ [])
    ∙ ap (λ (o : Option (List ℕ)). option_or o (block_of ((digest.0, bytes) ∷ []) digest)) none
    ∙ cond-true (bytes_eq digest.0 digest.0) (Some bytes) None ((bytes_eq-Decides digest.0 digest.0).1 refl)

pub kept_stands : (blocks : Blocks) (digest : Digest) (bytes : List ℕ) (other : Digest) (kept : List ℕ) → block_of blocks other ≡ Some kept
    → block_of (stored digest bytes blocks) other ≡ Some kept
kept_stands blocks digest bytes other kept stands = by (is_missing blocks digest)
  where
    by : (b : Bool) → block_of (if b then blocks ++ (digest.0, bytes) ∷ [] else blocks) other ≡ Some kept
    by true =
        lookup-append (bytes_eq other.0) blocks ((digest.0, bytes) ∷ [])
        ∙ ap (λ (o : Option (List ℕ)). option_or o (block_of ((digest.0, bytes) ∷ []) other)) stands
    by false = stands

pub others_stand : (blocks : Blocks) (digest : Digest) (bytes : List ℕ) (other : Digest) → other ≢ digest
    → block_of (stored digest bytes blocks) other ≡ block_of blocks other
others_stand blocks digest bytes other apart = by (is_missing blocks digest)
  where
    by : (b : Bool) → block_of (if b then blocks ++ (digest.0, bytes) ∷ [] else blocks) other ≡ block_of blocks other
    by true =
        lookup-append (bytes_eq other.0) blocks ((digest.0, bytes) ∷ [])
        ∙ ap (λ (o : Option (List ℕ)). option_or (block_of blocks other) o) (cond-false (bytes_eq other.0 digest.0) (Some bytes) None (other_bytes digest other apart))
        ∙ or_none (block_of blocks other)
    by false = refl
