-- What a remote keeps, as it hears of entries.
use Rattle.std.proofs.Common.{◌≡◌, ◌+◌, ◌-◌, ◌<◌, ◌≤◌, ◌++◌, ◌⊎◌, ℕ, zero, suc, List, [], ◌∷◌, length, take, drop, slice_get, Option, None, Some, IfSome, refl, sym, ◌∙◌, ap, subst, inl, inr, arith}
use Rattle.std.proofs.lemmas.List.{append-nil, drop-append-le, length-append, length-drop, take-append-le, take_rest}
use Rattle.std.proofs.lemmas.List.Elements.{All-cons, All-drop, All-nil}
use Rattle.std.specs.FinMap.{get}
use Rattle.std.specs.List.{slice_range}
use Rattle.nuc_base.specs.Kinds.{FitsKind}
use Rattle.nuc_base.specs.Trees.{Nodes}
use Rattle.nuc_base.specs.declared.node.Node.{Node}
use Rattle.nuc_journal.specs.Entries.{with_value}
use Rattle.nuc_journal.specs.Journal.{IsLegalValue}
use Rattle.nuc_journal.specs.declared.entry.Entry.{Entry}
use Rattle.nuc_lookup.specs.State.{UndoLookupState}
use Rattle.nuc_undo.specs.State.{UndoState}
use Rattle.nuc_undo.specs.State as undo
use Rattle.nuc_undo.specs.Steps.{Keeps, KeepsTree}
use Rattle.nuc_replica.specs.Ahead.{AheadState, AreLaidFrom, AreUntaken, HasRoom, IsAhead, IsKept, Lies, NodesFit, ahead_now, ahead_then, state_now, state_then}
use Rattle.nuc_replica.specs.Remote.{Agree, Follows, GoesOn, IsRemote, RemoteState, heard}
use Rattle.nuc_replica.proofs.Kept.{KeepsLookup, kept_reserved, room_kept, same_remote, state_reserved}
use Rattle.nuc_replica.proofs.Laying.{lies_same}

value_fits : (m : Nodes) (x : ℕ) (v : Option Node) → IsLegalValue m x v → IfSome v FitsKind
value_fits m x None legal = tt
value_fits m x (Some n) legal = legal.0

-- the nodes of entries that may come have what their kinds ask for
pub nodes_fit : (cursor : ℕ) (m : Nodes) (es : List Entry) → GoesOn cursor m es → NodesFit es
nodes_fit cursor m [] on = All-nil (λ e. IfSome e.value FitsKind)
nodes_fit cursor m (e ∷ es) on = All-cons (λ e. IfSome e.value FitsKind) e es (value_fits m e.id.0 e.value on.0.legal) (nodes_fit (cursor + 1) (with_value m e.id.0 e.value) es on.1)

drop_none : {X : Type 0} (n : ℕ) → ◌≡◌ {A = List X} (drop n []) []
drop_none zero = refl
drop_none (suc n) = refl

-- what is known, and then what is new, may come too
pub goes_on_heard : (cursor : ℕ) (m : Nodes) (known news : List Entry) → Agree known news → GoesOn cursor m known → GoesOn cursor m news
    → GoesOn cursor m (known ++ drop (length known) news)
goes_on_heard cursor m [] news agree on new = new
goes_on_heard cursor m (e ∷ es) [] agree on new = subst (GoesOn cursor m) (sym (ap (λ fs. (e ∷ es) ++ fs) (drop_none (length (e ∷ es))) ∙ append-nil (e ∷ es))) on
goes_on_heard cursor m (e ∷ es) (f ∷ fs) agree on new =
    let more : length (e ∷ es) ≡ suc (length es) = omega arith in
    let rest = subst (λ (g : Entry). GoesOn (cursor + 1) (with_value m g.id.0 g.value) fs) (sym agree.0) new.1 in
    subst (λ n. GoesOn cursor m ((e ∷ es) ++ drop n (f ∷ fs))) (sym more) (on.0, goes_on_heard (cursor + 1) (with_value m e.id.0 e.value) es fs agree.1 on.1 rest)

-- an item of two lists is one of the first or of the second
append_cases : {X : Type 0} (xs ys : List X) (k : ℕ) (y : X) → slice_get (xs ++ ys) k ≡ Some y
    → ((k < length xs) × (slice_get xs k ≡ Some y)) ⊎ ((length xs ≤ k) × (slice_get ys (k - length xs) ≡ Some y))
append_cases [] ys k y at = inr (omega arith, (let same : k - 0 ≡ k = omega arith in ap (slice_get ys) same ∙ at))
append_cases (x ∷ xs) ys zero y at = inl (omega arith, at)
append_cases (x ∷ xs) ys (suc k) y at = elim (append_cases xs ys k y at) [
  | inl (lt, old) ↦ inl (omega arith, old)
  | inr (le, new) ↦ inr (omega arith, (let same : suc k - length (x ∷ xs) ≡ k - length xs = omega arith in ap (slice_get ys) same ∙ new))
]

-- nodes were laid by in a tree from this number on, and nothing else changed
pub record LaidBeyond (s : UndoState) (first : ℕ) (t : UndoState) : Type 0 where
  pub keeps : KeepsTree s t
  pub before : (i : ℕ) → i < first → get t.laid i ≡ get s.laid i
  pub before_then : (i : ℕ) → i < first → get t.laid_then i ≡ get s.laid_then i
  pub untaken : AreUntaken t first

settled_tree : (s t : UndoState) → KeepsTree s t → undo.settled_of t ≡ undo.settled_of s
settled_tree s t keeps = ap (λ m. undo.earliest m t.past) keeps.now ∙ ap (undo.earliest s.now) keeps.past

pub kept_beyond : (s t : UndoState) (r : UndoLookupState) (c d : ℕ) (a : AheadState) → IsAhead a → LaidBeyond s (length a.entries) t → IsKept s r c d a → IsKept t r c d a
kept_beyond s t r c d a is beyond kept = record {
  now = subst IsRemote (same_remote _ _ _ _ c c _ _ (sym beyond.keeps.now) refl refl refl) kept.now;
  settled = subst IsRemote (same_remote _ _ _ _ d d _ _ (sym (settled_tree s t beyond.keeps)) refl refl refl) kept.settled;
  tree_room = room_kept a s.spare t.spare _ _ beyond.keeps.spare (sym (ap (λ past. length past) beyond.keeps.past)) kept.tree_room;
  revisions_room = kept.revisions_room;
  laid = λ i e le lt at. lies_same s.laid t.laid i e.value (beyond.before i lt) (kept.laid i e le lt at);
  settled_laid = λ i e le lt at. lies_same s.laid_then t.laid_then i e.value (beyond.before_then i (omega (arith, lt, is.settled_len))) (kept.settled_laid i e le lt at);
  untaken = beyond.untaken;
}

pub state_beyond : (s t : UndoState) (r : UndoLookupState) (c : ℕ) (a : AheadState) → KeepsTree s t → state_now t r c a ≡ state_now s r c a
state_beyond s t r c a keeps = same_remote _ _ _ _ c c _ _ keeps.now refl refl refl

pub settled_beyond : (s t : UndoState) (r : UndoLookupState) (d : ℕ) (a : AheadState) → KeepsTree s t → state_then t r d a ≡ state_then s r d a
settled_beyond s t r d a keeps = same_remote _ _ _ _ d d _ _ (settled_tree s t keeps) refl refl refl

abbrev pub with_more : AheadState → List Entry → AheadState
with_more a more = record a { entries = a.entries ++ more }

module _ (t : UndoState) (r : UndoLookupState) (c d : ℕ) (a : AheadState) (news more : List Entry) (is : IsAhead a) (new : more ≡ drop (length (ahead_now a)) news) where
  rest_more : ahead_now (with_more a more) ≡ ahead_now a ++ drop (length (ahead_now a)) news
  rest_more = drop-append-le a.applied a.entries more is.applied ∙ ap (λ es. ahead_now a ++ es) new

  front_more : ahead_then (with_more a more) ≡ ahead_then a
  front_more =
      let size = length-drop a.settled_applied a.entries in
      ap (take (a.settled_len - a.settled_applied)) (drop-append-le a.settled_applied a.entries more (omega (arith, is.settled_applied, is.settled_len)))
      ∙ take-append-le (a.settled_len - a.settled_applied) (drop a.settled_applied a.entries) more (omega (arith, size, is.settled_len))

  pub state_more : state_now t r c (with_more a more) ≡ heard news (state_now t r c a)
  state_more = same_remote _ _ _ _ c c _ _ refl refl refl rest_more

  pub settled_more : state_then t r d (with_more a more) ≡ state_then t r d a
  settled_more = same_remote _ _ _ _ d d _ _ refl refl refl front_more

  longer : length (a.entries ++ more) ≡ length a.entries + (length news - (length a.entries - a.applied))
  longer =
      let rest = length-drop a.applied a.entries in
      let size = ap (λ es. length es) new ∙ length-drop (length (ahead_now a)) news in
      length-append a.entries more ∙ omega (arith, size, rest)

  room_more : (spare past : ℕ) → length news ≤ spare → HasRoom a spare past → HasRoom (with_more a more) spare past
  room_more spare past enough room =
      let size = longer in
      record { now = omega (arith, size, enough, room.now, is.applied); settled = room.settled }

  pub kept_more : Follows (state_now t r c a) news → length news ≤ t.spare → length news ≤ r.spare → AreLaidFrom (length a.entries) t.laid more
      → IsKept t r c d a → IsKept t r c d (with_more a more)
  kept_more follows tree_spare revisions_spare laid kept =
      let size = length-append a.entries more in
      record {
        now = subst IsRemote (sym state_more) (record {
          form = kept.now.form;
          revisions = kept.now.revisions;
          ahead = goes_on_heard c t.now (ahead_now a) news follows.agrees kept.now.ahead follows.goes_on;
        });
        settled = subst IsRemote (sym settled_more) kept.settled;
        tree_room = room_more t.spare (length t.past) tree_spare kept.tree_room;
        revisions_room = room_more r.spare (length r.past) revisions_spare kept.revisions_room;
        laid = λ i e le lt at. elim (append_cases a.entries more i e at) [
          | inl (before, old) ↦ kept.laid i e le before old
          | inr (behind, late) ↦ let place : length a.entries + (i - length a.entries) ≡ i = omega (arith, behind) in
              subst (λ k. Lies t.laid k e.value) place (laid (i - length a.entries) e late)
        ];
        settled_laid = λ i e le lt at. elim (append_cases a.entries more i e at) [
          | inl (before, old) ↦ kept.settled_laid i e le lt old
          | inr (behind, late) ↦ absurd (omega (arith, behind, lt, is.settled_len))
        ];
        untaken = λ i le. kept.untaken i (omega (arith, size, le));
      }

-- room is made, the new nodes are laid by, and the new entries go behind the others
pub kept_heard : (s u t : UndoState) (r q : UndoLookupState) (c d : ℕ) (a : AheadState) (news more : List Entry) → IsAhead a → Keeps s u → KeepsLookup r q
    → LaidBeyond u (length a.entries) t → more ≡ drop (length (ahead_now a)) news → Follows (state_now s r c a) news → length news ≤ u.spare → length news ≤ q.spare
    → AreLaidFrom (length a.entries) t.laid more → IsKept s r c d a → IsKept t q c d (with_more a more)
kept_heard s u t r q c d a news more is tree revisions beyond new follows tree_spare revisions_spare laid kept =
    let same = state_beyond u t q c a beyond.keeps ∙ state_reserved s u r q c a tree revisions in
    let spare = beyond.keeps.spare in
    kept_more t q c d a news more is new (subst (λ (x : RemoteState). Follows x news) (sym same) follows) (omega arith) revisions_spare laid
    (kept_beyond u t q c d a is beyond (kept_reserved s u r q c d a tree revisions kept))

-- the copies of what is new among the news
pub new_entries : (copies range rest known news : List Entry) → copies ≡ range → range ≡ slice_range news (length rest) (length news) → rest ≡ known
    → copies ≡ drop (length known) news
new_entries copies range rest known news same part known_is = same ∙ part ∙ take_rest news (length rest) ∙ ap (λ (es : List Entry). drop (length es) news) known_is

pub new_fit : (cursor : ℕ) (m : Nodes) (copies known news : List Entry) → copies ≡ drop (length known) news → GoesOn cursor m news → NodesFit copies
new_fit cursor m copies known news new on = subst NodesFit (sym new) (All-drop (λ e. IfSome e.value FitsKind) (length known) news (nodes_fit cursor m news on))
