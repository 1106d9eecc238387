-- A commit that is based on the current revision, of the old kind, that the tree allows, and whose blocks are there, isn't refused.
use Rattle.std.specs.Prelude.{All, IfSome}
use Rattle.std.proofs.Common.{◌≡◌, ◌≢◌, ◌⊎◌, ◌==◌, ℕ, true, false, cond, List, [], ◌∷◌, Option, Some, None, refl, sym, ◌∙◌, ap, subst, inl, inr}
use Rattle.std.proofs.lemmas.Bool.{eqb-true}
use Rattle.std.proofs.lemmas.Slice.Eq.{bytes_eq-Decides}
use Rattle.nuc_base.specs.Changes.{FitsChange, IsLegal}
use Rattle.nuc_base.specs.Trees.{Nodes}
use Rattle.nuc_base.specs.declared.change.Change.{Change}
use Rattle.nuc_base.specs.declared.change.Change.TheVariants.{Keep, Put, Cut}
use Rattle.nuc_base.specs.declared.node.Kind.{Kind}
use Rattle.nuc_base.specs.declared.node.Node.{Node}
use Rattle.nuc_blocks.specs.Blocks.{Blocks, first_missing}
use Rattle.nuc_blocks.specs.Pieces.{all_stored}
use Rattle.nuc_edits.specs.declared.edit.Edit.{Edit}
use Rattle.nuc_hash.specs.Content.{ContentData, blocks_of, content_of}
use Rattle.nuc_hash.specs.declared.digest.Digest.{Digest}
use Rattle.nuc_journal.specs.Entries.{kind_after, kind_of, kind_with, revision_of, tree_of}
use Rattle.nuc_journal.specs.Journal.{HasOldKind, IsLegalValue}
use Rattle.nuc_journal.specs.declared.entry.Entry.{Entry}
use Rattle.nuc_observe.specs.Versions.{is_of_hash}
use Rattle.nuc_server.specs.Judge.{IsRefused, IsUnlawful, blocks_with}
use Rattle.nuc_server.specs.WebEdits.{WebState}
use Rattle.nuc_server.specs.declared.commit.Commit.{Commit}
use Rattle.nuc_server.specs.declared.commit.Refusal.{Refusal}
use Rattle.nuc_server.specs.declared.commit.Refusal.TheVariants as refusal
use Rattle.nuc_step.specs.Holdings.{EntryBrings, IsOf}
use Rattle.nuc_transfer.specs.Transfer.{Collision}
use Rattle.nuc_world.specs.Form.{IsShared}
use Rattle.nuc_world.specs.Takes.{committed, content_in, is_recorded}
use Rattle.nuc_world.proofs.Items.{all_first, all_rest}
use Rattle.nuc_converge.proofs.Contents.{IsOfBytes}
use Rattle.nuc_converge.proofs.Digests.{one_hash}
use Rattle.nuc_converge.proofs.Recordings.{IsRecording, content_of_bytes}
use Rattle.nuc_converge.proofs.Stocked.{nothing_missing}

-- THE JUDGEMENT
unlawful : (m : Nodes) (x : ℕ) (value : Option Node) (why : Refusal) → IsLegalValue m x value → IsUnlawful m x value why → ⊥
unlawful m x (Some n) refusal.NoParent legal bad = bad.1 (legal.1.parent)
unlawful m x (Some n) (refusal.Taken y) legal bad = let (k, at, near) = bad.3 in bad.2 (legal.1.free y.0 k at near)
unlawful m x (Some n) refusal.Cycle legal bad = legal.1.no_cycle bad.3
unlawful m x (Some n) (refusal.Stale current) legal bad = bad
unlawful m x (Some n) refusal.KindChanged legal bad = bad
unlawful m x (Some n) refusal.NotEmpty legal bad = bad
unlawful m x (Some n) (refusal.NoBlock digest) legal bad = bad
unlawful m x None refusal.NotEmpty legal bad = let (y, n, at, below) = bad.1 in legal.empty y n at below
unlawful m x None refusal.NoParent legal bad = bad
unlawful m x None (refusal.Taken y) legal bad = bad
unlawful m x None refusal.Cycle legal bad = bad
unlawful m x None (refusal.Stale current) legal bad = bad
unlawful m x None refusal.KindChanged legal bad = bad
unlawful m x None (refusal.NoBlock digest) legal bad = bad

module _ (es : List Entry) (blocks : Blocks) (k : Commit) (digests : List Digest) (fresh : k.base ≡ revision_of es k.id.0) (kind : HasOldKind es k.id.0 k.value)
    (legal : IsLegalValue (tree_of es) k.id.0 k.value) (kept : (first_missing blocks digests ≡ None) ⊎ Collision) where
  missing : (digest : Digest) → first_missing blocks digests ≡ Some digest → (first_missing blocks digests ≡ None) ⊎ Collision → Collision
  missing digest is (inl none) = absurd (let bad : Some digest ≡ None = sym is ∙ none in cc)
  missing digest is (inr two) = two

  pub refused_collides : (why : Refusal) → IsRefused es blocks k digests why → Collision
  refused_collides (refusal.Stale current) is = absurd (is.0 (fresh ∙ sym is.1))
  refused_collides refusal.KindChanged is = absurd (is.1 kind)
  refused_collides (refusal.NoBlock digest) is = missing digest is.3 kept
  refused_collides refusal.NoParent is = absurd (unlawful (tree_of es) k.id.0 k.value refusal.NoParent legal is.2)
  refused_collides (refusal.Taken y) is = absurd (unlawful (tree_of es) k.id.0 k.value (refusal.Taken y) legal is.2)
  refused_collides refusal.Cycle is = absurd (unlawful (tree_of es) k.id.0 k.value refusal.Cycle legal is.2)
  refused_collides refusal.NotEmpty is = absurd (unlawful (tree_of es) k.id.0 k.value refusal.NotEmpty legal is.2)

-- A LEGAL CHANGE is a legal value
pub legal_value : (m : Nodes) (x : ℕ) (c : Change) → c ≢ Keep → FitsChange c → IsLegal m x c → IsLegalValue m x (committed c)
legal_value m x Keep some fits legal = absurd (some refl)
legal_value m x (Put n) some fits legal = (fits, legal)
legal_value m x Cut some fits legal = legal

-- THE KIND of an identity in a journal is the one that it has in the world
module _ (x : ℕ) (kind : Kind) where
  abbrev IsOfKind : Option Kind → Type 0
  IsOfKind had = IfSome had (λ k. k ≡ kind)

  after_entry : (e : Entry) (value : Option Node) (before : Option Kind) → e.value ≡ value → e.id.0 ≡ x → ((k : Kind) (v : ℕ) → EntryBrings x k v e → k ≡ kind) → IsOfKind before
      → IsOfKind (kind_with value before)
  after_entry e None before is id each was = was
  after_entry e (Some n) before is id each was = each n.kind n.ver.0 (id, subst (IsOf n.kind n.ver.0) (sym is) (refl, refl))

  after_all : (es : List Entry) (before : Option Kind) → All (λ e. (k : Kind) (v : ℕ) → EntryBrings x k v e → k ≡ kind) es → IsOfKind before → IsOfKind (kind_after before es x)
  after_all [] before each was = was
  after_all (e ∷ es) before each was =
      let first = all_first (λ (f : Entry). (k : Kind) (v : ℕ) → EntryBrings x k v f → k ≡ kind) e es each in
      let rest = all_rest (λ (f : Entry). (k : Kind) (v : ℕ) → EntryBrings x k v f → k ≡ kind) e es each in
      after_all es (cond (e.id.0 == x) (kind_with e.value before) before) rest
      (elim (e.id.0 == x) as (λ b. (e.id.0 == x) ≡ b → IsOfKind (cond b (kind_with e.value before) before)) [
        | true ↦ λ same. after_entry e e.value before refl (eqb-true e.id.0 x same) first was
        | false ↦ λ other. was
      ] refl)

pub old_kind : (s : WebState) (kinds : ℕ → Kind) → IsShared s kinds → (x : ℕ) (value : Option Node) → ((n : Node) → value ≡ Some n → n.kind ≡ kinds x) → HasOldKind s.entries x value
old_kind s kinds shared x None known = tt
old_kind s kinds shared x (Some n) known =
    let own = known n refl in
    subst (λ kind. IfSome (kind_of s.entries x) (λ k. k ≡ kind)) (sym own)
    (after_all x (kinds x) s.entries None (λ i d below k v brings. (shared.entries x k v i d below brings).kind) tt)

-- THE BLOCKS of an upload: those of the bytes that were read are stored, and are those of what was recorded
by_content : (edits : List Edit) (bytes : List ℕ) (blocks : Blocks) (o : Option ContentData) → ((c : ContentData) → o ≡ Some c → IsOfBytes c)
    → is_of_hash (content_of bytes).hash o ≡ true → (first_missing (all_stored (blocks_of bytes) blocks) (blocks_with o) ≡ None) ⊎ Collision
by_content edits bytes blocks None of is = inl refl
by_content edits bytes blocks (Some c) of is =
    let its = of c refl in
    let hash : c.hash ≡ (content_of bytes).hash = ap (λ (xs : List ℕ). record { 0 = xs }) ((bytes_eq-Decides c.hash.0 (content_of bytes).hash.0).0 is) in
    let same : (content_of its.bytes).hash ≡ (content_of bytes).hash = sym (ap (λ (d : ContentData). d.hash) its.is) ∙ hash in
    elim (one_hash its.bytes bytes same) [
      | inl equal ↦ inl (ap (λ (d : ContentData). first_missing (all_stored (blocks_of bytes) blocks) d.blocks) its.is
          ∙ ap (λ ds. first_missing (all_stored (blocks_of bytes) blocks) ds) equal ∙ nothing_missing bytes blocks)
      | inr two ↦ inr two
    ]

content_in_bytes : (edits : List Edit) → All IsRecording edits → (value : Option Node) (c : ContentData) → content_in edits value ≡ Some c → IsOfBytes c
content_in_bytes edits all None c at = cc
content_in_bytes edits all (Some n) c at = content_of_bytes edits n.ver.0 c all at

pub uploaded_blocks : (edits : List Edit) → All IsRecording edits → (bytes : List ℕ) (blocks : Blocks) (value : Option Node) → is_recorded edits (content_of bytes).hash value ≡ true
    → (first_missing (all_stored (blocks_of bytes) blocks) (blocks_with (content_in edits value)) ≡ None) ⊎ Collision
uploaded_blocks edits all bytes blocks value is = by_content edits bytes blocks (content_in edits value) (content_in_bytes edits all value) is
