-- What a client notes alone doesn't show in its folder: that matches Local afterwards too.
use Rattle.std.proofs.Common.{◌≡◌, ◌==◌, ◌||◌, ◌&&◌, not, ◌∙◌, ℕ, Bool, true, false, cond, if◌then◌else◌, List, [], ◌∷◌, Option, None, Some, refl, sym, ap, subst, ◌⊎◌, inl, inr}
use Rattle.std.proofs.lemmas.Bool.{eqb-true}
use Rattle.std.specs.Bool.{beq}
use Rattle.std.specs.Cmp.{booleans_Decides}
use Rattle.std.specs.FinMap.{get}
use Rattle.std.proofs.lemmas.Slice.Eq.{bytes_eq-Decides}
use Rattle.nuc_base.specs.Changes.{FitsChange, IsLegal, changed}
use Rattle.nuc_base.specs.Kinds.{FitsKind}
use Rattle.nuc_base.specs.Legal.{LegalPut}
use Rattle.nuc_base.specs.Ready.{LegalInTurn}
use Rattle.nuc_base.specs.declared.change.Change.{Change}
use Rattle.nuc_base.specs.declared.change.Change.TheVariants.{Keep, Put, Cut}
use Rattle.nuc_base.specs.declared.node.Kind.{Kind}
use Rattle.nuc_base.specs.declared.node.Kind.TheVariants.{Folder, File}
use Rattle.nuc_base.specs.declared.node.Node.{Node}
use Rattle.nuc_base.proofs.Maps.{not_both}
use Rattle.nuc_class.specs.Effects.{effect_of, is_shown, looks_same}
use Rattle.nuc_class.specs.Equal.{place_eq}
use Rattle.nuc_class.specs.Split.{same_content}
use Rattle.nuc_class.specs.declared.op.Effect.TheVariants as effect
use Rattle.nuc_class.specs.declared.op.Op.{Op}
use Rattle.nuc_class.proofs.Tells.{place_eq-Decides}
use Rattle.nuc_edits.specs.Edits.{both_same, content_at, same_hash}
use Rattle.nuc_edits.specs.declared.edit.Edit.{Edit}
use Rattle.nuc_filework.specs.Calls.{key_place}
use Rattle.nuc_folder.specs.State.{FolderState}
use Rattle.nuc_folder.specs.declared.outcome.Outcome.TheVariants as outcome
use Rattle.nuc_follow.specs.Follows.{over}
use Rattle.nuc_follow.specs.Matches.{HasContent, HasRecorded, Matches, held_as}
use Rattle.nuc_follow.proofs.Putting.{over_matches}
use Rattle.nuc_follow.proofs.Shown.{key_there}
use Rattle.nuc_hash.specs.Content.{ContentData}
use Rattle.nuc_hash.specs.declared.digest.Digest.{Digest}
use Rattle.nuc_replica.specs.Local.{LocalState, moved_key}
use Rattle.nuc_step.specs.Client.{ClientState}
use Rattle.nuc_step.specs.Planning.{CanNote}
use Rattle.nuc_step.specs.Steps.{keys_after, keys_with, local_after, split_changes}
use Rattle.nuc_step.proofs.Noticed.{one_change}

-- TESTS
or_cases : (a b : Bool) → (a || b) ≡ true → (a ≡ true) ⊎ (b ≡ true)
or_cases true b is = inl refl
or_cases false b is = inr is

and_parts : (a b : Bool) → (a && b) ≡ true → (a ≡ true) × (b ≡ true)
and_parts true b is = (refl, is)
and_parts false b is = absurd (let bad : false ≡ true = is in cc)

not_false : (b : Bool) → not b ≡ false → b ≡ true
not_false true is = refl
not_false false is = absurd (let bad : true ≡ false = is in cc)

-- ONE CONTENT: bytes of the one version's recorded hash have the other's
pub recorded_same : (a b : Option ContentData) (bytes : Option (List ℕ)) → both_same a b ≡ true → HasRecorded a bytes → HasRecorded b bytes
recorded_same None b bytes same has = absurd has
recorded_same (Some a) None bytes same has = absurd (let bad : false ≡ true = same in cc)
recorded_same (Some a) (Some b) None same has = absurd has
recorded_same (Some a) (Some b) (Some bytes) same has =
    has ∙ ap (λ (x : List ℕ). let d : Digest = record { 0 = x } in d) ((bytes_eq-Decides a.hash.0 b.hash.0).0 same)

module _ (es : List Edit) where
  pub content_same : (k : Kind) (a b : ℕ) (bytes : Option (List ℕ)) → same_content (same_hash es) a b ≡ true → HasContent es k a bytes → HasContent es k b bytes
  content_same Folder a b bytes same has = has
  content_same File a b bytes same has = elim (or_cases (a == b) (same_hash es a b) same) [
    | inl equal ↦ subst (λ v. HasRecorded (content_at es v) bytes) (eqb-true a b equal) has
    | inr hashes ↦ recorded_same (content_at es a) (content_at es b) bytes hashes has
  ]

  -- ONE LOOK
  pub alike : (n k : Node) → looks_same (same_hash es) n k ≡ true → (n.place ≡ k.place) × (same_content (same_hash es) n.ver.0 k.ver.0 ≡ true) × (n.bit ≡ k.bit)
  alike n k looks =
      let parts = and_parts (place_eq n.place k.place && same_content (same_hash es) n.ver.0 k.ver.0) (beq n.bit k.bit) looks in
      let first = and_parts (place_eq n.place k.place) (same_content (same_hash es) n.ver.0 k.ver.0) parts.0 in
      ((place_eq-Decides n.place k.place).0 first.0, first.1, (booleans_Decides n.bit k.bit).0 parts.1)

  -- a node comes in place of one that looks the same
  pub looks_on : (l : LocalState) (s : FolderState) (x : ℕ) (old n : Node) → Matches es l s → get l.tree x ≡ Some old → LegalPut l.tree x n → FitsKind n
      → looks_same (same_hash es) old n ≡ true → Matches es (over l x n) s
  looks_on l s x old n is at legal fits looks =
      let (place, content, bit) = alike old n looks in
      let kind : old.kind ≡ n.kind = legal.kind old at in
      let (k, key) = key_there es l s is x old at in
      let held = is.held x k old key at in
      let node : held_as held.place old ≡ held_as held.place n =
      ap (λ (y : Kind). held_as held.place (record old { kind = y })) kind
      ∙ ap (λ (b : Bool). held_as held.place (record old { kind = n.kind; bit = b })) bit in
      over_matches es l s s x k old n held.place is at key legal fits
      (sym (ap (key_place l.keys) place) ∙ held.known) (held.node ∙ ap Some node)
      (content_same n.kind old.ver.0 n.ver.0 (get s.bytes k) content (subst (λ y. HasContent es y old.ver.0 (get s.bytes k)) kind held.bytes))
      (λ j apart. refl) (λ j apart. refl)

  -- A CHANGE OF LOCAL THAT ISN'T SHOWN
  pub unshown : (l : LocalState) (s : FolderState) (x : ℕ) (old : Option Node) (c : Change) → Matches es l s → get l.tree x ≡ old
      → is_shown (same_hash es) old c ≡ false → IsLegal l.tree x c → FitsChange c
      → Matches es (record { tree = changed l.tree x c; keys = keys_with old c outcome.Ok x l.keys }) s
  unshown l s x None Keep is at shown legal fits = is
  unshown l s x (Some old) Keep is at shown legal fits = is
  unshown l s x None (Put n) is at shown legal fits = absurd (let bad : true ≡ false = shown in cc)
  unshown l s x (Some old) (Put n) is at shown legal fits = looks_on l s x old n is at legal fits (not_false (looks_same (same_hash es) old n) shown)
  unshown l s x None Cut is at shown legal fits = absurd (not_both l.tree x legal.there.0 at legal.there.1)
  unshown l s x (Some old) Cut is at shown legal fits = absurd (let bad : true ≡ false = shown in cc)

  shown_nowhere : (old : Option Node) (c remote : Change) → effect_of (same_hash es) old c remote ≡ effect.Nothing → is_shown (same_hash es) old c ≡ false
  shown_nowhere old c Keep e = by (is_shown (same_hash es) old c) e
    where
      by : (b : Bool) → (if b then effect.Disk else effect.Nothing) ≡ effect.Nothing → b ≡ false
      by true e = absurd (let bad : effect.Disk ≡ effect.Nothing = e in cc)
      by false e = refl
  shown_nowhere old c (Put n) e = absurd (let bad : effect.Commit ≡ effect.Nothing = e in cc)
  shown_nowhere old c Cut e = absurd (let bad : effect.Commit ≡ effect.Nothing = e in cc)

  -- AN OPERATION that is noted
  pub noted_matches : (c : ClientState) (op : Op) (s : FolderState) → CanNote c op → op.effect ≡ effect.Nothing
      → op.effect ≡ effect_of (same_hash es) op.old_local op.local op.remote → Matches es c.local s → Matches es (local_after op outcome.Ok c.local) s
  noted_matches c op s can nothing is matches =
      let tree = one_change op c.local can.one in
      let keys : keys_after op outcome.Ok c.local.keys ≡ keys_with op.old_local op.local outcome.Ok op.id.0 c.local.keys =
      ap (λ b. cond b (moved_key c.local.keys op.id.0 op.other.0 (get c.local.keys op.id.0))
      (keys_with op.old_local op.local outcome.Ok op.id.0 c.local.keys)) can.one in
      let legal = subst (λ b. LegalInTurn c.local.tree (cond b (split_changes op) ((op.id.0, op.local) ∷ []))) can.one can.local.legal in
      subst (λ m. Matches es (record { tree = m; keys = keys_after op outcome.Ok c.local.keys }) s) (sym tree)
      (subst (λ ks. Matches es (record { tree = changed c.local.tree op.id.0 op.local; keys = ks }) s) (sym keys)
      (unshown c.local s op.id.0 op.old_local op.local matches can.local.old
      (shown_nowhere op.old_local op.local op.remote (sym is ∙ nothing)) legal.0 can.may.fits.local))
