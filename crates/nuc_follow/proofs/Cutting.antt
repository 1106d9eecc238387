-- What is there goes: its removal succeeds, and the folder matches Local without it.
use Rattle.std.proofs.Common.{◌≡◌, ◌≢◌, ◌∙◌, ◌==◌, ℕ, if◌then◌else◌, List, Option, None, Some, refl, sym, ap, subst, inl, inr}
use Rattle.std.specs.FinMap.{get, remove}
use Rattle.nuc_base.specs.Legal.{LegalCut}
use Rattle.nuc_base.specs.declared.change.Change.TheVariants.{Cut}
use Rattle.nuc_base.specs.declared.node.Kind.{Kind}
use Rattle.nuc_base.specs.declared.node.Kind.TheVariants.{Folder, File}
use Rattle.nuc_base.specs.declared.node.Node.{Node}
use Rattle.nuc_base.proofs.Maps.{after_cut, get_cut_other, get_cut_same, same_or_not}
use Rattle.nuc_edits.specs.declared.edit.Edit.{Edit}
use Rattle.nuc_filework.specs.Calls.{key_of, key_place, only, removing, seen_hash}
use Rattle.nuc_filework.specs.Runs.{FolderView, RunsOp}
use Rattle.nuc_filework.specs.declared.call.Call.TheVariants.{Remove}
use Rattle.nuc_folder.specs.Answers.{HasSeenHash, IsPlaced, IsSeen}
use Rattle.nuc_folder.specs.State.{FolderState, place_of}
use Rattle.nuc_folder.specs.declared.outcome.Outcome.TheVariants as outcome
use Rattle.nuc_folder.specs.declared.ran.RanOp.{RanOp}
use Rattle.nuc_folder.specs.declared.seen.Seen.{Seen}
use Rattle.nuc_follow.specs.Follows.{IsFollowed, cut}
use Rattle.nuc_follow.specs.Matches.{HasContent, HasRecorded, Matches}
use Rattle.nuc_follow.specs.Needs.{IsContentOf, KeysAgree}
use Rattle.nuc_follow.specs.Steady.{IsSteady}
use Rattle.nuc_follow.proofs.Calling.{removed}
use Rattle.nuc_follow.proofs.Matched.{matched_without}
use Rattle.nuc_follow.proofs.Shown.{childless_held, key_there, known_alike}
use Rattle.nuc_follow.proofs.Steps.{Does, followed_once}
use Rattle.nuc_hash.specs.Content.{ContentData}
use Rattle.nuc_lookup.proofs.Maps as numbers
use Rattle.nuc_observe.specs.Keys.{KeyMap}
use Rattle.nuc_replica.specs.Local.{IsLocal, LocalState}
use Rattle.nuc_shelf.proofs.Bytes.{led_other}
use Rattle.nuc_shelf.specs.Shelf.{without}

pub key_before : (ks : KeyMap) (x y k : ℕ) → get (remove ks x) y ≡ Some k → (y ≢ x) × (get ks y ≡ Some k)
key_before ks x y k at = elim (same_or_not y x) [
  | inl same ↦ absurd (numbers.not_both (get (remove ks x) x) k (numbers.get_cut_same ks x) (subst (λ z. get (remove ks x) z ≡ Some k) same at))
  | inr apart ↦ (apart, sym (numbers.get_cut_other ks x y apart) ∙ at)
]

pub key_of_cut : (ks : KeyMap) (x q : ℕ) → q ≢ x → key_of (remove ks x) q ≡ key_of ks q
key_of_cut ks x q apart = ap (λ o. if q == 0 then Some 0 else o) (numbers.get_cut_other ks x q apart)

seen_bytes : (c : ContentData) (b : Option (List ℕ)) → HasRecorded (Some c) b → HasSeenHash b (Some c.hash)
seen_bytes c None has = has
seen_bytes c (Some bytes) has = has

seen_content : (es : List Edit) (kind : Kind) (ver : ℕ) (seen : ContentData) (b : Option (List ℕ)) → IsContentOf es kind ver seen → HasContent es kind ver b
    → HasSeenHash b (seen_hash kind seen.hash)
seen_content es Folder ver seen b content has = subst (λ o. HasSeenHash o None) (sym has) tt
seen_content es File ver seen b content has = seen_bytes seen b (subst (λ o. HasRecorded o b) content has)

module _ (es : List Edit) (bytes : List ℕ) (own : KeyMap) (l : LocalState) (x : ℕ) (old : Node) (seen : ContentData)
    (v : FolderView) (s : FolderState) (ran : RanOp) (w : FolderView) where
  cut_matches : (k : ℕ) → Matches es l s → get l.keys x ≡ Some k → LegalCut l.tree x → IsLocal (cut l x) → Matches es (cut l x) (without s k)
  cut_matches k is key legal local =
      matched_without es l (cut l x) s (without s k) is local x k
      (λ y j n apart keyed at.
      let was : get l.tree y ≡ Some n = (after_cut l.tree x y n at).1 in
      ((key_before l.keys x y j keyed).1, was, known_alike (remove l.keys x) l.keys n.place (key_of_cut l.keys x n.place.parent.0 (legal.empty y n was))))
      (λ y j apart keyed.
      let other : y ≢ x = λ e. apart (numbers.one_number (get l.keys x) j k (subst (λ z. get l.keys z ≡ Some j) e keyed) key) in
      numbers.get_cut_other l.keys x y other ∙ keyed)
      (λ j apart. get_cut_other s.tree k j apart) (λ j apart. led_other s.bytes k None j apart)
      (get_cut_same l.tree x) (get_cut_same s.tree k)
      (λ y keyed. let was = key_before l.keys x y k keyed in was.0 (is.local.keys.one_to_one y x k was.1 key))

  pub cut_follows : IsSteady v s → Matches es l s → get l.tree x ≡ Some old → LegalCut l.tree x → IsLocal (cut l x) → KeysAgree own l.keys x (Some old) Cut
      → IsContentOf es old.kind old.ver.0 seen → RunsOp own bytes (only (removing (get own x) (key_place own old.place) (seen_hash old.kind seen.hash))) v ran w
      → ran.outcome ≢ outcome.Memory → IsFollowed es (cut l x) ran w
  cut_follows steady is at legal local agree content runs room =
      let (k, key) = key_there es l s is x old at in
      let mine : get own x ≡ Some k = agree.mine ∙ key in
      let held = is.held x k old key at in
      let from : key_place own old.place ≡ Some held.place = known_alike own l.keys old.place agree.from ∙ held.known in
      let its : Seen = record { place = held.place; hash = seen_hash old.kind seen.hash } in
      let can : IsSeen k its s = (subst (λ o. IsPlaced o (place_of held.place)) (sym held.node) refl, seen_content es old.kind old.ver.0 seen (get s.bytes k) content held.bytes) in
      let does : Does es bytes s (cut l x) (Some (Remove (record { 0 = k }) its)) = λ answer t answers well rooms. (
      let (ok, now) = removed k its s answer t answers can (childless_held es l s is x k key legal.empty) well rooms in
      (ok, subst (Matches es (cut l x)) (sym now) (cut_matches k is key legal local))) in
      followed_once es bytes own (cut l x) (Remove (record { 0 = k }) its) v s ran w steady does
      (subst (λ cs. RunsOp own bytes cs v ran w) (λ i. only (removing (mine i) (from i) (seen_hash old.kind seen.hash))) runs) room
