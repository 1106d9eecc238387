-- A file goes to the place of its copy: the move succeeds, and the folder matches Local with the copy in place of the file.
use Rattle.std.proofs.Common.{◌≡◌, ◌≢◌, ◌∙◌, ◌==◌, ℕ, if◌then◌else◌, List, None, Some, refl, sym, ap, subst, inl, inr}
use Rattle.std.specs.FinMap.{get, insert, remove}
use Rattle.nuc_base.specs.Legal.{LegalCut, LegalPut}
use Rattle.nuc_base.specs.Trees.{IsFolder, NoChild}
use Rattle.nuc_base.specs.declared.change.Change.TheVariants.{Put}
use Rattle.nuc_base.specs.declared.node.Node.{Node}
use Rattle.nuc_base.specs.declared.node.Place.{Place}
use Rattle.nuc_base.proofs.Chains.{under_childless}
use Rattle.nuc_base.proofs.Maps.{after_cut, get_cut_other, get_put_other, get_put_same, not_both}
use Rattle.nuc_edits.specs.declared.edit.Edit.{Edit}
use Rattle.nuc_filework.specs.Calls.{key_of, key_place, moving, only}
use Rattle.nuc_filework.specs.Runs.{FolderView, RunsOp}
use Rattle.nuc_filework.specs.declared.call.Call.TheVariants.{MoveTo}
use Rattle.nuc_folder.specs.State.{FolderState, place_of}
use Rattle.nuc_folder.specs.declared.key_place.KeyPlace.{KeyPlace}
use Rattle.nuc_folder.specs.declared.outcome.Outcome.TheVariants as outcome
use Rattle.nuc_folder.specs.declared.ran.RanOp.{RanOp}
use Rattle.nuc_follow.specs.Follows.{IsFollowed, split}
use Rattle.nuc_follow.specs.Matches.{Matches, held_as}
use Rattle.nuc_follow.specs.Needs.{KeysAgree}
use Rattle.nuc_follow.specs.Steady.{IsSteady}
use Rattle.nuc_follow.proofs.Altering.{can_move, changed_else, changed_here}
use Rattle.nuc_follow.proofs.Calling.{moved_to}
use Rattle.nuc_follow.proofs.Cutting.{key_before, key_of_cut}
use Rattle.nuc_follow.proofs.Matched.{matched_with}
use Rattle.nuc_follow.proofs.Shown.{folder_key, free_held, key_root, key_there, known_alike, node_there, place_known}
use Rattle.nuc_follow.proofs.Steps.{Does, followed_once}
use Rattle.nuc_lookup.proofs.Maps as numbers
use Rattle.nuc_observe.specs.Keys.{KeyMap}
use Rattle.nuc_replica.specs.Local.{IsLocal, LocalState}
use Rattle.nuc_shelf.specs.Shelf.{moved, placed}

-- another key of an identity that isn't z
pub key_of_put : (ks : KeyMap) (z k q : ℕ) → q ≢ z → key_of (insert ks z k) q ≡ key_of ks q
key_of_put ks z k q apart = ap (λ o. if q == 0 then Some 0 else o) (numbers.get_put_other ks z k q apart)

module _ (es : List Edit) (bytes : List ℕ) (own : KeyMap) (l : LocalState) (x z : ℕ) (old : Node) (place : Place)
    (at : get l.tree x ≡ Some old) (new : get l.tree z ≡ None) (legal : LegalPut l.tree z (record old { place = place }))
    (cut : LegalCut (insert l.tree z (record old { place = place })) x) where
  apart : x ≢ z
  apart same = not_both l.tree z old new (subst (λ y. get l.tree y ≡ Some old) same at)

  -- who stands isn't z
  not_new : (y : ℕ) (n : Node) → get l.tree y ≡ Some n → y ≢ z
  not_new y n there same = not_both l.tree z n new (subst (λ q. get l.tree q ≡ Some n) same there)

  childless : NoChild l.tree x
  childless y n there = cut.empty y n (get_put_other l.tree z (record old { place = place }) y (not_new y n there) ∙ there)

  parent_other : place.parent.0 ≢ x
  parent_other = cut.empty z (record old { place = place }) (get_put_same l.tree z (record old { place = place }))

  legal_move : LegalPut l.tree x (record old { place = place })
  legal_move = record {
    kind = λ n there. ap (λ (h : Node). h.kind) (let same : n ≡ old = cc in same);
    parent = legal.parent;
    free = λ y n there near. absurd (not_new y n there (legal.free y n there near));
    no_cycle = λ u. parent_other (under_childless l.tree x place.parent.0 childless u);
  }

  -- a parent keeps its key
  parent_key : (k q : ℕ) → IsFolder l.tree q → q ≢ x → key_of (insert (remove l.keys x) z k) q ≡ key_of l.keys q
  parent_key k q (inl root) other = key_root (insert (remove l.keys x) z k) q root ∙ sym (key_root l.keys q root)
  parent_key k q (inr (n, there, folder)) other = key_of_put (remove l.keys x) z k q (not_new q n there) ∙ key_of_cut l.keys x q other

  module _ (v : FolderView) (s : FolderState) (ran : RanOp) (w : FolderView) where
    split_matches : (k : ℕ) (q : KeyPlace) → (is : Matches es l s) → get l.keys x ≡ Some k → key_place l.keys place ≡ Some q
        → IsLocal (split l x z (record old { place = place }) k) → Matches es (split l x z (record old { place = place }) k) (moved s k (place_of q))
    split_matches k q is key known local =
        let copy : Node = record old { place = place } in
        let m : LocalState = split l x z copy k in
        let held = is.held x k old key at in
        matched_with es l m s (moved s k (place_of q)) is local z k
        (λ y j n other keyed there.
        let key_was = key_before l.keys x y j (sym (numbers.get_put_other (remove l.keys x) z k y other) ∙ keyed) in
        let was : get l.tree y ≡ Some n = sym (get_put_other l.tree z copy y other) ∙ (after_cut (insert l.tree z copy) x y n there).1 in
        (key_was.1, was, known_alike m.keys l.keys n.place (parent_key k n.place.parent.0 (is.local.form.parents y n was) (childless y n was))))
        (λ y j differs keyed.
        let x_not : y ≢ x = λ e. differs (numbers.one_number (get l.keys x) j k (subst (λ i. get l.keys i ≡ Some j) e keyed) key) in
        let (n, there) = node_there es l s is y j keyed in
        numbers.get_put_other (remove l.keys x) z k y (not_new y n there) ∙ numbers.get_cut_other l.keys x y x_not ∙ keyed)
        (changed_else es bytes l x k old at key (placed (place_of q)) s (held_as held.place old) held.node) (λ j other. refl)
        copy (get_cut_other (insert l.tree z copy) x z (λ e. apart (sym e)) ∙ get_put_same l.tree z copy) (numbers.get_put_same (remove l.keys x) z k)
        (record {
          place = q;
          known = known_alike m.keys l.keys place (parent_key k place.parent.0 legal.parent parent_other) ∙ known;
          node = changed_here es bytes l x k old at key (placed (place_of q)) s (held_as held.place old) held.node;
          bytes = held.bytes;
        })

    pub split_follows : IsSteady v s → Matches es l s → ((k : ℕ) → get l.keys x ≡ Some k → IsLocal (split l x z (record old { place = place }) k))
        → KeysAgree own l.keys x (Some old) (Put (record old { place = place }))
        → RunsOp own bytes (only (moving (get own x) (key_place own old.place) (key_place own place))) v ran w → ran.outcome ≢ outcome.Memory
        → (k : ℕ) × (get l.keys x ≡ Some k) × IsFollowed es (split l x z (record old { place = place }) k) ran w
    split_follows steady is local agree runs room =
        let (k, key) = key_there es l s is x old at in
        let mine : get own x ≡ Some k = agree.mine ∙ key in
        let held = is.held x k old key at in
        let from : key_place own old.place ≡ Some held.place = known_alike own l.keys old.place agree.from ∙ held.known in
        let (j, parent) = folder_key es l s is place.parent.0 legal.parent in
        let (q, known) = place_known l.keys place j parent in
        let to : key_place own place ≡ Some q = known_alike own l.keys place agree.to ∙ known in
        let m : LocalState = split l x z (record old { place = place }) k in
        let does : Does es bytes s m (Some (MoveTo (record { 0 = k }) held.place q)) = λ answer t answers well rooms. (
        let (ok, now) = moved_to k (place_of held.place) (place_of q) s answer t answers
        (can_move es bytes l x k old at key own place held.place q from held.known to known legal_move (is.local.form.fits x old at) s is)
        (free_held es l s is x k place q key known legal_move.free) well rooms in
        (ok, subst (Matches es m) (sym now) (split_matches k q is key known (local k key)))) in (
          k,
          key,
          followed_once es bytes own m (MoveTo (record { 0 = k }) held.place q) v s ran w steady does
              (subst (λ cs. RunsOp own bytes cs v ran w) (λ i. only (moving (mine i) (from i) (to i))) runs) room,
        )
