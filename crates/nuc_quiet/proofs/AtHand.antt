-- The contents of which an operation speaks are recorded, and the bytes that it writes are at hand: those that the blocks at the
-- server give, unless two lists of bytes have one SHA-256.
use Rattle.std.specs.Prelude.{All, IsSome, unwrap_or}
use Rattle.std.proofs.Common.{◌≡◌, ◌≢◌, ◌⊎◌, ℕ, zero, suc, ◌*◌, ◌≤◌, Bool, true, false, cond, not, List, [], ◌∷◌, ◌++◌, length, map, take, drop, Option, Some, None, is_some, refl, ap, sym, subst, ◌∙◌, inl, inr, true≢false, arith, length-drop}
use Rattle.std.proofs.lemmas.Bool.{cases_Bool}
use Rattle.std.proofs.lemmas.List.{nil_from_length, take-append-drop}
use Rattle.std.proofs.lemmas.List.Elements.{All-head, All-tail}
use Rattle.std.proofs.lemmas.Bool.{cond-true, cond-false}
use Rattle.std.proofs.lemmas.Slice.Eq.{bytes_eq-Decides}
use Rattle.std.specs.FinMap.{get}
use Rattle.std.specs.List.{flat_map}
use Rattle.std.specs.Simd.{first_chunks}
use Rattle.std.specs.Str.{bytes_eq}
use Rattle.nuc_base.specs.declared.change.Change.{Change}
use Rattle.nuc_base.specs.declared.change.Change.TheVariants.{Put}
use Rattle.nuc_base.specs.declared.node.Kind.{Kind}
use Rattle.nuc_base.specs.declared.node.Kind.TheVariants.{Folder, File}
use Rattle.nuc_base.specs.declared.node.Node.{Node}
use Rattle.nuc_blocks.specs.Blocks.{Blocks, assembled, block_of, first_missing}
use Rattle.nuc_base.specs.Trees.{Nodes}
use Rattle.nuc_class.specs.declared.op.Verb.{Verb}
use Rattle.nuc_class.specs.declared.op.Verb.TheVariants as verb
use Rattle.nuc_converge.proofs.Contents.{IsOfBytes}
use Rattle.nuc_converge.proofs.Recordings.{IsRecording, content_of_bytes, none_at_0}
use Rattle.nuc_converge.proofs.Stocked.{IsKept, IsStocked, KeepsEntry, stands_kept}
use Rattle.nuc_edits.specs.Edits.{WasPut, content_at}
use Rattle.nuc_edits.specs.declared.edit.Edit.{Edit}
use Rattle.nuc_follow.specs.Needs.{AreGiven, HasContents, HasNewBytes, IsContentOf, IsSameUnlessFile}
use Rattle.nuc_hash.specs.Content.{ContentData, blocks_of, content_of, digest_of, pieces}
use Rattle.nuc_hash.specs.declared.content.TheConstants.{BLOCK}
use Rattle.nuc_hash.specs.declared.digest.Digest.{Digest}
use Rattle.nuc_journal.specs.Journal.{IsJournal}
use Rattle.nuc_journal.proofs.Journals.{journal_front}
use Rattle.nuc_replica.specs.Following.{IsAt}
use Rattle.nuc_replica.specs.Remote.{RemoteState}
use Rattle.nuc_server.specs.Judge.{blocks_with}
use Rattle.nuc_server.specs.WebEdits.{WebState}
use Rattle.nuc_step.specs.Steps.{is_split}
use Rattle.nuc_transfer.specs.Transfer.{Collision}
use Rattle.nuc_world.specs.Form.{IsPutAs}
use Rattle.nuc_world.proofs.Items.{all_take}
use Rattle.nuc_world.specs.Starts.{is_file}
use Rattle.nuc_world.specs.Takes.{committed, content_in, kept_bytes, or_empty, writes, writes_by}
use Rattle.nuc_quiet.proofs.Soundness.{AreHashed, IsHashed}

-- BYTES COME BACK from the blocks that they were cut into
abbrev all_of : List (List ℕ) → List ℕ
all_of ps = flat_map (λ (p : List ℕ). p) ps

all_chunks : (n k : ℕ) (xs : List ℕ) → length xs ≤ k * n → all_of (first_chunks n k xs) ≡ xs
all_chunks n zero xs short = sym (nil_from_length xs (omega (arith, short)))
all_chunks n (suc k) xs short =
    let left = length-drop n xs in
    ap (λ ys. take n xs ++ ys) (all_chunks n k (drop n xs) (omega (arith, short, left))) ∙ take-append-drop n xs

all_blocks : (bytes : List ℕ) → all_of (blocks_of bytes) ≡ bytes
unfolding blocks_of pieces
all_blocks bytes = all_chunks BLOCK _ bytes (omega arith)

first_kept : (o : Option (List ℕ)) (digest : Digest) (rest : Option Digest) → cond (not (is_some o)) (Some digest) rest ≡ None
    → (o ≡ Some (unwrap_or o [])) × (rest ≡ None)
first_kept None digest rest none = absurd (true≢false (ap is_some none))
first_kept (Some bytes) digest rest none = (refl, none)

-- what stands under a digest has it
found_hashed : (blocks : Blocks) → AreHashed blocks → (digest : Digest) (bytes : List ℕ) → block_of blocks digest ≡ Some bytes → digest_of bytes ≡ digest
found_hashed [] each digest bytes found = absurd (true≢false (sym (ap is_some found)))
found_hashed (b ∷ bs) each digest bytes found =
    elim (cases_Bool (bytes_eq digest.0 b.0)) [
      | inl same ↦
          let name : record { 0 = b.0 } ≡ digest = sym (ap (λ (x : List ℕ). record { 0 = x }) ((bytes_eq-Decides digest.0 b.0).0 same)) in
          let here : b.1 ≡ bytes =
          ap (λ (o : Option (List ℕ)). unwrap_or o bytes) (sym (cond-true (bytes_eq digest.0 b.0) (Some b.1) (block_of bs digest) same) ∙ found) in
          sym (ap digest_of here) ∙ All-head IsHashed b bs each ∙ name
      | inr other ↦
          found_hashed bs (All-tail IsHashed b bs each) digest bytes (sym (cond-false (bytes_eq digest.0 b.0) (Some b.1) (block_of bs digest) other) ∙ found)
    ]

module _ (blocks : Blocks) (formed : AreHashed blocks) (unbroken : ¬ Collision) where
  same_block : (p kept : List ℕ) → block_of blocks (digest_of p) ≡ Some kept → kept ≡ p
  same_block p kept at =
      let is = found_hashed blocks formed (digest_of p) kept at in
      elim (cases_Bool (bytes_eq kept p)) [
        | inl same ↦ (bytes_eq-Decides kept p).0 same
        | inr other ↦ absurd (unbroken (record { one = kept; other = p; apart = λ same. true≢false (sym ((bytes_eq-Decides kept p).1 same) ∙ other); same = is }))
      ]

  pieces_back : (ps : List (List ℕ)) → first_missing blocks (map digest_of ps) ≡ None → assembled blocks (map digest_of ps) ≡ all_of ps
  pieces_back [] none = refl
  pieces_back (p ∷ ps) none =
      let kept = first_kept (block_of blocks (digest_of p)) (digest_of p) (first_missing blocks (map digest_of ps)) none in
      let first = same_block p (unwrap_or (block_of blocks (digest_of p)) []) kept.0 in
      let others = pieces_back ps kept.1 in
      λ i. first i ++ others i

  comes_back : (original : List ℕ) → first_missing blocks (content_of original).blocks ≡ None → assembled blocks (content_of original).blocks ≡ original
  unfolding content_of
  comes_back original none = pieces_back (blocks_of original) none ∙ all_blocks original

  -- so they have the hash
  back_hashed : (content : ContentData) → IsOfBytes content → first_missing blocks content.blocks ≡ None
      → (content_of (assembled blocks content.blocks)).hash ≡ content.hash
  back_hashed content of none =
      let back = comes_back of.bytes (subst (λ (c : ContentData). first_missing blocks c.blocks ≡ None) of.is none) in
      ap (λ (c : ContentData). (content_of (assembled blocks c.blocks)).hash) of.is ∙ ap (λ bytes. (content_of bytes).hash) back ∙ sym (ap (λ (c : ContentData). c.hash) of.is)

-- WHAT IS RECORDED
some_content : (o : Option ContentData) → IsSome o → o ≡ Some (or_empty o)
some_content None some = absurd (true≢false (sym some))
some_content (Some content) some = refl

module _ (es : List Edit) (all : All IsRecording es) where
  content_is : (k : Kind) (v : ℕ) → IsPutAs es k v → IsContentOf es k v (or_empty (content_at es v))
  content_is Folder v put = tt
  content_is File v put = some_content (content_at es v) put

  -- a folder has none
  no_content : (v : ℕ) → v ≡ 0 → or_empty (content_at es v) ≡ content_of []
  no_content v is = ap (λ x. or_empty (content_at es x)) is ∙ ap or_empty (none_at_0 es all)

  both_none : (k : Kind) (v u : ℕ) → IsPutAs es k v → IsPutAs es k u → IsSameUnlessFile k (or_empty (content_at es v)).hash (or_empty (content_at es u)).hash
  both_none Folder v u old new = ap (λ (c : ContentData). c.hash) (no_content v old ∙ sym (no_content u new))
  both_none File v u old new = tt

-- of what is kept no block is missing
its_blocks : (o : Option ContentData) → IsSome o → blocks_with o ≡ (or_empty o).blocks
its_blocks None some = absurd (true≢false (sym some))
its_blocks (Some content) some = refl

not_put : (es : List Edit) (v : ℕ) → All IsRecording es → v ≡ 0 → WasPut es v → ⊥
not_put es v all at_0 put =
    let none : content_at es v ≡ None = ap (content_at es) at_0 ∙ none_at_0 es all in
    true≢false (sym put ∙ ap is_some none)

kept_none : (es : List Edit) (blocks : Blocks) (v : ℕ) → All IsRecording es → WasPut es v → IsKept es blocks v
    → first_missing blocks (or_empty (content_at es v)).blocks ≡ None
kept_none es blocks v all put (inl at_0) = absurd (not_put es v all at_0 put)
kept_none es blocks v all put (inr (was, none)) = sym (ap (first_missing blocks) (its_blocks (content_at es v) put)) ∙ none

-- WHAT IS AT HAND, by the verb and the values in Local
abbrev pub given_by : WebState → Verb → Option Node → Change → Option (List ℕ)
given_by s v old local =
    cond (writes_by v old local (bytes_eq (or_empty (content_in s.edits.edits old)).hash.0 (or_empty (content_in s.edits.edits (committed local))).hash.0))
    (kept_bytes s.blocks (or_empty (content_in s.edits.edits (committed local))).blocks (first_missing s.blocks (or_empty (content_in s.edits.edits (committed local))).blocks)) None

-- a verb of which the bytes and the calls are those of its change: all but Split and Adopt
pub record IsPlain (v : Verb) : Type 0 where
  pub one : is_split v ≡ false
  pub two : v ≢ verb.Adopt

writes_plain : (v : Verb) → IsPlain v → (old : Option Node) (local : Change) (same : Bool) → writes_by v old local same ≡ writes old local same
writes_plain verb.Adopt plain old local same = absurd (plain.two refl)
writes_plain verb.Split plain old local same = absurd (true≢false plain.one)
writes_plain _ plain old local same = refl

-- the version of a node that is put: one that the server keeps, or that of the node before
abbrev pub Comes : WebState → Option Node → Node → Type 0
Comes s old new = IsKept s.edits.edits s.blocks new.ver.0 ⊎ ((n : Node) × (old ≡ Some n) × (new.ver.0 ≡ n.ver.0))

module _ (s : WebState) (stocked : IsStocked s) (formed : AreHashed s.blocks) (unbroken : ¬ Collision) (v : Verb) (plain : IsPlain v) where
  at_hand : (old : Option Node) (new : Node) (same : Bool)
      → same ≡ bytes_eq (or_empty (content_in s.edits.edits old)).hash.0 (or_empty (content_at s.edits.edits new.ver.0)).hash.0
      → writes old (Put new) same ≡ true
      → WasPut s.edits.edits new.ver.0 → IsKept s.edits.edits s.blocks new.ver.0
      → AreGiven (is_some (given_by s v old (Put new))) (unwrap_or (given_by s v old (Put new)) []) (or_empty (content_at s.edits.edits new.ver.0)).hash
  at_hand old new same is asked put kept =
      let content : ContentData = or_empty (content_at s.edits.edits new.ver.0) in
      let none : first_missing s.blocks content.blocks ≡ None = kept_none s.edits.edits s.blocks new.ver.0 stocked.edits put kept in
      let of : IsOfBytes content = content_of_bytes s.edits.edits new.ver.0 content stocked.edits (some_content (content_at s.edits.edits new.ver.0) put) in
      let so : writes_by v old (Put new) (bytes_eq (or_empty (content_in s.edits.edits old)).hash.0 content.hash.0) ≡ true =
      ap (writes_by v old (Put new)) (sym is) ∙ writes_plain v plain old (Put new) same ∙ asked in
      let all : given_by s v old (Put new) ≡ Some (assembled s.blocks content.blocks) =
      ap (λ b. cond b (kept_bytes s.blocks content.blocks (first_missing s.blocks content.blocks)) None) so ∙ ap (kept_bytes s.blocks content.blocks) none in
      subst (λ o. AreGiven (is_some o) (unwrap_or o []) content.hash) (sym all) (refl, back_hashed s.blocks formed unbroken content of none)

  -- something new
  new_bytes : (new : Node) (k : Kind) → new.kind ≡ k → IsPutAs s.edits.edits k new.ver.0 → IsKept s.edits.edits s.blocks new.ver.0
      → HasNewBytes k (is_some (given_by s v None (Put new))) (unwrap_or (given_by s v None (Put new)) []) (or_empty (content_at s.edits.edits new.ver.0)).hash
  new_bytes new Folder is put kept = tt
  new_bytes new File is put kept = at_hand None new _ refl (ap is_file is) put kept

  pub new_contents : (new : Node) → IsPutAs s.edits.edits new.kind new.ver.0 → Comes s None new
      → HasContents s.edits.edits None (Some new) (content_of []) (or_empty (content_at s.edits.edits new.ver.0)) (is_some (given_by s v None (Put new))) (unwrap_or (given_by s v None (Put new)) [])
  new_contents new put (inl kept) = (content_is s.edits.edits stocked.edits new.kind new.ver.0 put, new_bytes new new.kind refl put kept)
  new_contents new put (inr (n, none, ver)) = cc

  -- another node
  differs_not : (a b : Digest) → a ≡ b → bytes_eq a.0 b.0 ≡ false → ⊥
  differs_not a b same differs = true≢false (sym ((bytes_eq-Decides a.0 b.0).1 (ap (λ (d : Digest). d.0) same)) ∙ differs)

  module _ (old new : Node) where
    abbrev Seen : ContentData
    Seen = or_empty (content_at s.edits.edits old.ver.0)

    abbrev Wanted : ContentData
    Wanted = or_empty (content_at s.edits.edits new.ver.0)

    abbrev Given : Option (List ℕ)
    Given = given_by s v (Some old) (Put new)

    other_bytes : (k : Kind) → IsPutAs s.edits.edits k old.ver.0 → IsPutAs s.edits.edits k new.ver.0 → Comes s (Some old) new
        → bytes_eq Seen.hash.0 Wanted.hash.0 ≡ false
        → AreGiven (is_some Given) (unwrap_or Given []) Wanted.hash
    other_bytes k was put (inr (n, same, ver)) differs =
        let one : old ≡ n = cc in
        let both : new.ver.0 ≡ old.ver.0 = ver ∙ sym (ap (λ (h : Node). h.ver.0) one) in
        absurd (differs_not Seen.hash Wanted.hash (ap (λ u. (or_empty (content_at s.edits.edits u)).hash) (sym both)) differs)
    other_bytes Folder was put (inl kept) differs =
        absurd (differs_not Seen.hash Wanted.hash (both_none s.edits.edits stocked.edits Folder old.ver.0 new.ver.0 was put) differs)
    other_bytes File was put (inl kept) differs = at_hand (Some old) new false (sym differs) refl put kept

    pub changed_contents : IsPutAs s.edits.edits old.kind old.ver.0 → IsPutAs s.edits.edits new.kind new.ver.0 → new.kind ≡ old.kind → Comes s (Some old) new
        → HasContents s.edits.edits (Some old) (Some new) Seen Wanted (is_some Given) (unwrap_or Given [])
    changed_contents was put kind comes =
        let alike : IsPutAs s.edits.edits old.kind new.ver.0 = subst (λ k. IsPutAs s.edits.edits k new.ver.0) kind put in (
          content_is s.edits.edits stocked.edits old.kind old.ver.0 was,
          content_is s.edits.edits stocked.edits new.kind new.ver.0 put,
          both_none s.edits.edits stocked.edits old.kind old.ver.0 new.ver.0 was alike,
          λ differs. other_bytes old.kind was alike comes differs,
        )

  pub gone_contents : (old : Node) (wanted : ContentData) (given : Bool) (bytes : List ℕ) → IsPutAs s.edits.edits old.kind old.ver.0
      → HasContents s.edits.edits (Some old) None (or_empty (content_at s.edits.edits old.ver.0)) wanted given bytes
  gone_contents old wanted given bytes was = content_is s.edits.edits stocked.edits old.kind old.ver.0 was

-- WHAT REMOTE HAS the server keeps
pub remote_kept : (s : WebState) (r : RemoteState) → IsJournal s.entries → IsStocked s → IsAt s.entries r → (x : ℕ) (n : Node) → get r.tree x ≡ Some n
    → IsKept s.edits.edits s.blocks n.ver.0
remote_kept s r journal stocked at x n there =
    stands_kept (record s { entries = take r.cursor s.entries }) (journal_front s.entries r.cursor journal)
    (record { edits = stocked.edits; entries = all_take (KeepsEntry s) r.cursor s.entries stocked.entries }) x n
    (subst (λ (m : Nodes). get m x ≡ Some n) at.tree there)
