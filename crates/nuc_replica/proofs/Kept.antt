-- What a remote keeps, as entries are applied and taken back.
use Rattle.std.proofs.Common.{◌≡◌, ◌+◌, ◌-◌, ◌<◌, ◌≤◌, ℕ, List, [], ◌∷◌, length, take, drop, refl, sym, ◌∙◌, ap, subst, arith}
use Rattle.std.proofs.lemmas.List.{drop-drop, drop-take, drop_min, length-take-le, take-take}
use Rattle.std.specs.FinMap.{get}
use Rattle.nuc_base.specs.Trees.{Nodes}
use Rattle.nuc_journal.specs.Entries.{with_value}
use Rattle.nuc_journal.specs.declared.entry.Entry.{Entry}
use Rattle.nuc_journal.proofs.Lists.{front_at}
use Rattle.nuc_lookup.specs.Rows.{Numbers}
use Rattle.nuc_lookup.specs.State.{UndoLookupState}
use Rattle.nuc_lookup.specs.State as lookup
use Rattle.nuc_undo.specs.State.{UndoState}
use Rattle.nuc_undo.specs.State as undo
use Rattle.nuc_undo.specs.Steps.{AllTakenBack, Changed, Keeps}
use Rattle.nuc_replica.specs.Ahead.{AheadState, AreLaid, HasRoom, IsAhead, IsKept, ahead_now, ahead_then, led_back, state_now, state_then, with_next_applied}
use Rattle.nuc_replica.specs.Remote.{Follows, IsRemote, RemoteState, with_entries, with_revision}
use Rattle.nuc_replica.proofs.Followed.{remote_with}
use Rattle.nuc_replica.proofs.Laying.{lies_same}

pub same_remote : (m k : Nodes) (r s : Numbers) (c d : ℕ) (es fs : List Entry) → m ≡ k → r ≡ s → c ≡ d → es ≡ fs
    → ◌≡◌ {A = RemoteState} (record { tree = m; revisions = r; cursor = c; ahead = es }) (record { tree = k; revisions = s; cursor = d; ahead = fs })
same_remote m k r s c d es fs tree revisions cursor ahead = rw (tree, revisions, cursor, ahead)

-- ROOM IS MADE
-- a look-up with the same in it, and no less spare
pub record KeepsLookup (s t : UndoLookupState) : Type 0 where
  pub now : t.now ≡ s.now
  pub past : t.past ≡ s.past
  pub spare : s.spare ≤ t.spare

settled_kept : (s t : UndoState) → Keeps s t → undo.settled_of t ≡ undo.settled_of s
settled_kept s t keeps = ap (λ m. undo.earliest m t.past) keeps.now ∙ ap (undo.earliest s.now) keeps.past

settled_kept_lookup : (s t : UndoLookupState) → KeepsLookup s t → lookup.settled_of t ≡ lookup.settled_of s
settled_kept_lookup s t keeps = ap (lookup.first_or t.past) keeps.now ∙ ap (λ past. lookup.first_or past s.now) keeps.past

pub room_kept : (a : AheadState) (spare more past after : ℕ) → spare ≤ more → past ≡ after → HasRoom a spare past → HasRoom a more after
room_kept a spare more past after le same room = record { now = omega (arith, room.now); settled = omega (arith, room.settled) }

pub kept_reserved : (s t : UndoState) (r q : UndoLookupState) (c d : ℕ) (a : AheadState) → Keeps s t → KeepsLookup r q → IsKept s r c d a → IsKept t q c d a
kept_reserved s t r q c d a tree revisions kept = record {
  now = subst IsRemote (same_remote _ _ _ _ c c _ _ (sym tree.now) (sym revisions.now) refl refl) kept.now;
  settled = subst IsRemote (same_remote _ _ _ _ d d _ _ (sym (settled_kept s t tree)) (sym (settled_kept_lookup r q revisions)) refl refl) kept.settled;
  tree_room = room_kept a s.spare t.spare _ _ tree.spare (sym (ap (λ past. length past) tree.past)) kept.tree_room;
  revisions_room = room_kept a r.spare q.spare _ _ revisions.spare (sym (ap (λ past. length past) revisions.past)) kept.revisions_room;
  laid = subst (λ m. AreLaid m a.entries a.applied (length a.entries)) (sym tree.laid) kept.laid;
  settled_laid = subst (λ m. AreLaid m a.entries a.settled_applied a.settled_len) (sym tree.laid_then) kept.settled_laid;
  untaken = λ i le. ap (λ m. get m i) tree.laid ∙ kept.untaken i le ∙ sym (ap (λ m. get m i) tree.laid_then);
}

pub state_reserved : (s t : UndoState) (r q : UndoLookupState) (c : ℕ) (a : AheadState) → Keeps s t → KeepsLookup r q → state_now t q c a ≡ state_now s r c a
state_reserved s t r q c a tree revisions = same_remote _ _ _ _ c c _ _ tree.now revisions.now refl refl

-- ONE MORE IS APPLIED
pub rest_passed : (a : AheadState) → ahead_now (with_next_applied a) ≡ drop 1 (ahead_now a)
rest_passed a = drop_min (a.applied + 1) a.entries ∙ sym (drop-drop 1 a.applied a.entries)

-- what an entry makes of the revisions
pub record Noted (r : UndoLookupState) (e : Entry) (q : UndoLookupState) : Type 0 where
  pub now : q.now ≡ with_revision r.now e.id.0 e.value e.rev
  pub past : length q.past ≡ length r.past + 1
  pub spare : r.spare ≤ q.spare + 1
  pub settled : lookup.settled_of q ≡ lookup.settled_of r

-- what an entry makes of the tree and of what is laid by, where its place is this
pub record Applied (s : UndoState) (e : Entry) (place end : ℕ) (t : UndoState) : Type 0 where
  pub now : t.now ≡ with_value s.now e.id.0 e.value
  pub changed : Changed s e.id.0 t
  pub settled : undo.settled_of t ≡ undo.settled_of s
  pub later : (i : ℕ) → place < i → get t.laid i ≡ get s.laid i
  pub beyond : (i : ℕ) → end ≤ i → get t.laid i ≡ get s.laid i

module _ (s t : UndoState) (r q : UndoLookupState) (c d : ℕ) (a : AheadState) (e : Entry)
    (applied : Applied s e a.applied (length a.entries) t) (noted : Noted r e q) (follows : Follows (state_now s r c a) (e ∷ [])) where
  pub state_applied : state_now t q e.rev (with_next_applied a) ≡ with_entries (state_now s r c a) (e ∷ [])
  state_applied = same_remote _ _ _ _ e.rev (c + 1) _ _ applied.now noted.now follows.goes_on.0.rev (rest_passed a)

  pub settled_applied : state_then t q d (with_next_applied a) ≡ state_then s r d a
  settled_applied = same_remote _ _ _ _ d d _ _ applied.settled noted.settled refl refl

  room_applied : (spare less past more : ℕ) → spare ≤ less + 1 → 0 < spare → more ≡ past + 1 → HasRoom a spare past → HasRoom (with_next_applied a) less more
  room_applied spare less past more le some one room = record { now = omega (arith, room.now); settled = omega (arith, room.settled) }

  pub kept_applied : IsKept s r c d a → 0 < s.spare → 0 < r.spare → IsKept t q e.rev d (with_next_applied a)
  kept_applied kept tree_spare revisions_spare =
      let longer : length t.past ≡ length s.past + 1 = ap (λ past. length past) applied.changed.past ∙ omega arith in
      record {
        now = subst IsRemote (sym state_applied) (remote_with (state_now s r c a) e kept.now follows);
        settled = subst IsRemote (sym settled_applied) kept.settled;
        tree_room = room_applied s.spare t.spare (length s.past) (length t.past) applied.changed.spare tree_spare longer kept.tree_room;
        revisions_room = room_applied r.spare q.spare (length r.past) (length q.past) noted.spare revisions_spare noted.past kept.revisions_room;
        laid = λ i f le lt at. lies_same s.laid t.laid i f.value (applied.later i (omega arith)) (kept.laid i f (omega arith) lt at);
        settled_laid = subst (λ m. AreLaid m a.entries a.settled_applied a.settled_len) (sym applied.changed.laid_then) kept.settled_laid;
        untaken = λ i le. applied.beyond i le ∙ kept.untaken i le ∙ sym (ap (λ m. get m i) applied.changed.laid_then);
      }

-- ALL IS TAKEN BACK
-- the look-up as it was settled
pub record LookupTakenBack (r q : UndoLookupState) : Type 0 where
  pub now : q.now ≡ lookup.settled_of r
  pub past : q.past ≡ []
  pub spare : r.spare + length r.past ≤ q.spare

module _ (s t : UndoState) (r q : UndoLookupState) (d : ℕ) (a : AheadState) (is : IsAhead a) (tree : AllTakenBack s t) (revisions : LookupTakenBack r q) where
  front_rest : drop a.settled_applied (take a.settled_len a.entries) ≡ ahead_then a
  front_rest =
      let whole : a.settled_applied + (a.settled_len - a.settled_applied) ≡ a.settled_len = omega (arith, is.settled_applied) in
      sym (ap (λ n. drop a.settled_applied (take n a.entries)) whole) ∙ drop-take a.settled_applied (a.settled_len - a.settled_applied) a.entries

  front_again : ahead_then (led_back a) ≡ ahead_then a
  front_again = ap (take (a.settled_len - a.settled_applied)) front_rest ∙ take-take (a.settled_len - a.settled_applied) (a.settled_len - a.settled_applied) _ (omega arith)

  pub state_back : state_now t q d (led_back a) ≡ state_then s r d a
  state_back = same_remote _ _ _ _ d d _ _ tree.now revisions.now refl front_rest

  pub settled_back : state_then t q d (led_back a) ≡ state_then s r d a
  settled_back = same_remote _ _ _ _ d d _ _ (ap (undo.earliest t.now) tree.past ∙ tree.now) (ap (λ past. lookup.first_or past q.now) revisions.past ∙ revisions.now) refl front_again

  room_back : (spare past more none : ℕ) → spare + past ≤ more → HasRoom a spare past → HasRoom (led_back a) more none
  room_back spare past more none le room =
      let size : length (take a.settled_len a.entries) ≡ a.settled_len = length-take-le a.settled_len a.entries is.settled_len in
      record { now = omega (arith, size, room.settled); settled = omega (arith, room.settled) }

  laid_back : AreLaid s.laid_then a.entries a.settled_applied a.settled_len → (n : ℕ) → n ≤ a.settled_len → AreLaid s.laid_then (take a.settled_len a.entries) a.settled_applied n
  laid_back laid n few i e le lt at = laid i e le (omega arith) (front_at a.entries a.settled_len i e at).0

  pub kept_back : (c : ℕ) → IsKept s r c d a → IsKept t q d d (led_back a)
  kept_back c kept =
      let size : length (take a.settled_len a.entries) ≡ a.settled_len = length-take-le a.settled_len a.entries is.settled_len in
      record {
        now = subst IsRemote (sym state_back) kept.settled;
        settled = subst IsRemote (sym settled_back) kept.settled;
        tree_room = room_back s.spare (length s.past) t.spare (length t.past) tree.spare kept.tree_room;
        revisions_room = room_back r.spare (length r.past) q.spare (length q.past) revisions.spare kept.revisions_room;
        laid = subst (λ m. AreLaid m (take a.settled_len a.entries) a.settled_applied (length (take a.settled_len a.entries))) (sym tree.laid) (laid_back kept.settled_laid _ (omega (arith, size)));
        settled_laid = subst (λ m. AreLaid m (take a.settled_len a.entries) a.settled_applied a.settled_len) (sym tree.laid_then) (laid_back kept.settled_laid _ (omega arith));
        untaken = λ i le. ap (λ m. get m i) (tree.laid ∙ sym tree.laid_then);
      }
