-- Something new comes: the call that makes it succeeds, and the folder matches Local with it and its key.
use Rattle.std.proofs.Common.{◌≡◌, ◌≢◌, ◌∙◌, ◌<◌, ◌≤◌, ◌⊎◌, ℕ, Bool, true, false, List, [], ◌∷◌, Option, None, Some, refl, sym, ap, subst, inl, inr, arith}
use Rattle.std.specs.Prelude.{is_some}
use Rattle.std.specs.FinMap.{get, insert}
use Rattle.nuc_base.specs.Kinds.{Fits, FitsKind}
use Rattle.nuc_base.specs.Legal.{LegalPut}
use Rattle.nuc_base.specs.Trees.{IsFolder, IsVacant}
use Rattle.nuc_base.specs.declared.change.Change.TheVariants.{Put}
use Rattle.nuc_base.specs.declared.node.Kind.{Kind}
use Rattle.nuc_base.specs.declared.node.Kind.TheVariants.{Folder, File}
use Rattle.nuc_base.specs.declared.node.Node.{Node}
use Rattle.nuc_base.proofs.Maps.{get_put_other, get_put_same, not_both}
use Rattle.nuc_edits.specs.Edits.{content_at}
use Rattle.nuc_edits.specs.declared.edit.Edit.{Edit}
use Rattle.nuc_filework.specs.Calls.{key_of, key_place, making, only}
use Rattle.nuc_filework.specs.Runs.{Accepts, CallAnswers, FolderView, Runs, RunsOp, Succeeds}
use Rattle.nuc_filework.specs.declared.call.Call.{Call}
use Rattle.nuc_filework.specs.declared.call.Call.TheVariants.{MakeDir, WriteNew}
use Rattle.nuc_folder.specs.Answers.{Makes}
use Rattle.nuc_folder.specs.Outcome.{is_success}
use Rattle.nuc_folder.specs.State.{FolderState, KeysBelow, place_of}
use Rattle.nuc_folder.specs.declared.item.Key.{Key}
use Rattle.nuc_folder.specs.declared.key_place.KeyPlace.{KeyPlace}
use Rattle.nuc_folder.specs.declared.outcome.Outcome.{Outcome}
use Rattle.nuc_folder.specs.declared.outcome.Outcome.TheVariants as outcome
use Rattle.nuc_folder.specs.declared.ran.RanOp.{RanOp}
use Rattle.nuc_follow.specs.Follows.{IsMade, made}
use Rattle.nuc_follow.specs.Matches.{HasContent, HasRecorded, Matches, held_as}
use Rattle.nuc_follow.specs.Needs.{AreKeysBelow, HasContents, HasNewBytes, IsContentOf, KeysAgree}
use Rattle.nuc_follow.specs.Steady.{IsSteady}
use Rattle.nuc_follow.proofs.Calling.{HasFirst, IsAnswered, answered, first_of, made_at, none_left, room_first}
use Rattle.nuc_follow.proofs.Matched.{matched_with}
use Rattle.nuc_follow.proofs.Shown.{folder_held, folder_key, key_root, known_alike, known_parts, node_there, place_known, vacant_held}
use Rattle.nuc_follow.proofs.Splitting.{key_of_put}
use Rattle.nuc_follow.proofs.Steps.{HasRun, has_run}
use Rattle.nuc_hash.specs.Content.{ContentData}
use Rattle.nuc_hash.specs.declared.digest.Digest.{Digest}
use Rattle.nuc_lookup.proofs.Maps as numbers
use Rattle.nuc_observe.specs.Keys.{IsUnheld, KeyMap}
use Rattle.nuc_replica.specs.Local.{IsLocal, LocalState}
use Rattle.nuc_shelf.proofs.Bytes.{led_other, led_same}
use Rattle.nuc_shelf.specs.Shelf.{IsShelf, with_file, with_folder}

-- what the folder holds with it
abbrev pub held_made : Kind → KeyPlace → Bool → List ℕ → ℕ → FolderState → FolderState
held_made Folder q bit bytes k s = with_folder s k (place_of q)
held_made File q bit bytes k s = with_file s k (place_of q) bit bytes

abbrev pub call_made : Kind → KeyPlace → Bool → Call
call_made Folder q bit = MakeDir q
call_made File q bit = WriteNew q bit

call_is : (kind : Kind) (q : KeyPlace) (bit given : Bool) (bytes : List ℕ) (hash : Digest) → HasNewBytes kind given bytes hash → making kind bit given (Some q) ≡ Some (call_made kind q bit)
call_is Folder q bit given bytes hash new = refl
call_is File q bit given bytes hash new = ap (λ g. making File bit g (Some q)) new.0

makes_key : (kind : Kind) (q : KeyPlace) (bit : Bool) (bytes : List ℕ) (old : FolderState) (answer : Outcome) (new : FolderState)
    → CallAnswers bytes (call_made kind q bit) old answer new → IsFolder old.tree q.parent.0 → IsVacant old.tree (place_of q) → answer ≢ outcome.Failed → answer ≢ outcome.Memory
    → (k : Key) × (answer ≡ outcome.Made k) × (new ≡ held_made kind q bit bytes k.0 old)
makes_key Folder q bit bytes old answer new is folder vacant well room = made_at (place_of q) (λ x s. with_folder s x (place_of q)) old answer new is folder vacant well room
makes_key File q bit bytes old answer new is folder vacant well room = made_at (place_of q) (λ x s. with_file s x (place_of q) bit bytes) old answer new is folder vacant well room

key_new : (kind : Kind) (q : KeyPlace) (bit : Bool) (answer : Outcome) (n after : ℕ) (k : Key) → answer ≡ outcome.Made k → Succeeds (call_made kind q bit) answer n after
    → (0 < k.0) × (n ≤ k.0)
key_new Folder q bit answer n after k is new = let it : Makes (outcome.Made k) n after = subst (λ a. Makes a n after) is new in (it.0, it.1)
key_new File q bit answer n after k is new = let it : Makes (outcome.Made k) n after = subst (λ a. Makes a n after) is new in (it.0, it.1)

-- what was made is taken for made, since nobody of the client has its key
accepted : (own : KeyMap) (k : Key) (answer : Outcome) → Accepts own (outcome.Made k) answer → 0 < k.0 → IsUnheld own k.0 → answer ≡ outcome.Made k
accepted own k (outcome.Made other) (same, some, unheld) above free = ap outcome.Made same
accepted own k outcome.Changed (inl zero) above free = absurd (omega (arith, zero, above))
accepted own k outcome.Changed (inr held) above free = absurd (held free)
accepted own k outcome.Ok is above free = absurd is
accepted own k outcome.Taken is above free = absurd is
accepted own k outcome.NotEmpty is above free = absurd is
accepted own k outcome.Failed is above free = absurd is
accepted own k outcome.Memory is above free = absurd is

not_failed : (answer : Outcome) (k : Key) → answer ≡ outcome.Made k → is_success answer ≡ false → ⊥
not_failed answer k is failed = let wrong : true ≡ false = ap is_success (sym is) ∙ failed in cc

unheld_above : (own : KeyMap) (next k : ℕ) → AreKeysBelow own next → next ≤ k → IsUnheld own k
unheld_above own next k below above y keyed = absurd (omega (arith, below y k keyed, above))

-- WHAT IS HELD THEN
node_made : (n : Node) (q : KeyPlace) (bytes : List ℕ) (k : ℕ) (s : FolderState) → FitsKind n → get (held_made n.kind q n.bit bytes k s).tree k ≡ Some (held_as q n)
node_made n q bytes k s fits = by n.kind fits
  where
    by : (kind : Kind) → Fits kind n.ver.0 n.bit → get (held_made kind q n.bit bytes k s).tree k ≡ Some (held_as q (record n { kind = kind }))
    by Folder f =
        get_put_same s.tree k (let r : Node = record { place = place_of q; kind = Folder; ver = record { 0 = 0 }; bit = false } in r)
        ∙ ap (λ b. let r : Node = record { place = place_of q; kind = Folder; ver = record { 0 = 0 }; bit = b } in Some r) (sym f.1)
    by File f = get_put_same s.tree k (let r : Node = record { place = place_of q; kind = File; ver = record { 0 = 1 }; bit = n.bit } in r)

nodes_else : (kind : Kind) (q : KeyPlace) (bit : Bool) (bytes : List ℕ) (k : ℕ) (s : FolderState) (j : ℕ) → j ≢ k → get (held_made kind q bit bytes k s).tree j ≡ get s.tree j
nodes_else Folder q bit bytes k s j apart = get_put_other s.tree k (let r : Node = record { place = place_of q; kind = Folder; ver = record { 0 = 0 }; bit = false } in r) j apart
nodes_else File q bit bytes k s j apart = get_put_other s.tree k (let r : Node = record { place = place_of q; kind = File; ver = record { 0 = 1 }; bit = bit } in r) j apart

bytes_else : (kind : Kind) (q : KeyPlace) (bit : Bool) (bytes : List ℕ) (k : ℕ) (s : FolderState) (j : ℕ) → j ≢ k → get (held_made kind q bit bytes k s).bytes j ≡ get s.bytes j
bytes_else Folder q bit bytes k s j apart = refl
bytes_else File q bit bytes k s j apart = led_other s.bytes k (Some bytes) j apart

no_bytes : (s : FolderState) (k : ℕ) → IsShelf s → get s.tree k ≡ None → (o : Option (List ℕ)) → get s.bytes k ≡ o → get s.bytes k ≡ None
no_bytes s k shelf none None at = at
no_bytes s k shelf none (Some bytes) at = let (n, there, file) = shelf.files k (ap is_some at) in absurd (not_both s.tree k n none there)

content_made : (es : List Edit) (kind : Kind) (ver : ℕ) (q : KeyPlace) (bit given : Bool) (bytes : List ℕ) (k : ℕ) (s : FolderState) (wanted : ContentData)
    → IsShelf s → get s.tree k ≡ None → IsContentOf es kind ver wanted → HasNewBytes kind given bytes wanted.hash → HasContent es kind ver (get (held_made kind q bit bytes k s).bytes k)
content_made es Folder ver q bit given bytes k s wanted shelf none content new = no_bytes s k shelf none (get s.bytes k) refl
content_made es File ver q bit given bytes k s wanted shelf none content new =
    subst (HasRecorded (content_at es ver)) (sym (led_same s.bytes k (Some bytes))) (subst (λ o. HasRecorded o (Some bytes)) (sym content) new.1)

not_above : (s : FolderState) (n k : ℕ) → KeysBelow n s → n ≤ k → (o : Option Node) → get s.tree k ≡ o → get s.tree k ≡ None
not_above s n k below above None at = at
not_above s n k below above (Some h) at = absurd (omega (arith, below k h at, above))

module _ (es : List Edit) (bytes : List ℕ) (own : KeyMap) (l : LocalState) (x : ℕ) (n : Node) (seen wanted : ContentData) (given : Bool)
    (v : FolderView) (s : FolderState) (ran : RanOp) (w : FolderView) (absent : get l.tree x ≡ None) (legal : LegalPut l.tree x n) where
  -- who stands isn't x
  not_x : (y : ℕ) (h : Node) → get l.tree y ≡ Some h → y ≢ x
  not_x y h there same = not_both l.tree x h absent (subst (λ q. get l.tree q ≡ Some h) same there)

  parent_key : (k q : ℕ) → IsFolder l.tree q → key_of (insert l.keys x k) q ≡ key_of l.keys q
  parent_key k q (inl root) = key_root (insert l.keys x k) q root ∙ sym (key_root l.keys q root)
  parent_key k q (inr (h, there, folder)) = key_of_put l.keys x k q (not_x q h there)

  made_matches : (k : ℕ) (q : KeyPlace) → (is : Matches es l s) → IsShelf s → get s.tree k ≡ None → key_place l.keys n.place ≡ Some q → FitsKind n
      → IsContentOf es n.kind n.ver.0 wanted → HasNewBytes n.kind given bytes wanted.hash → IsLocal (made l x n k) → Matches es (made l x n k) (held_made n.kind q n.bit bytes k s)
  made_matches k q is shelf none known fits content new local =
      matched_with es l (made l x n k) s (held_made n.kind q n.bit bytes k s) is local x k
      (λ y j h other keyed there.
      let was : get l.tree y ≡ Some h = sym (get_put_other l.tree x n y other) ∙ there in
      (sym (numbers.get_put_other l.keys x k y other) ∙ keyed, was, known_alike (insert l.keys x k) l.keys h.place (parent_key k h.place.parent.0 (is.local.form.parents y h was))))
      (λ y j differs keyed.
      let (h, there) = node_there es l s is y j keyed in
      numbers.get_put_other l.keys x k y (not_x y h there) ∙ keyed)
      (nodes_else n.kind q n.bit bytes k s) (bytes_else n.kind q n.bit bytes k s)
      n (get_put_same l.tree x n) (numbers.get_put_same l.keys x k)
      (record {
        place = q;
        known = known_alike (insert l.keys x k) l.keys n.place (parent_key k n.place.parent.0 legal.parent) ∙ known;
        node = node_made n q bytes k s fits;
        bytes = content_made es n.kind n.ver.0 q n.bit given bytes k s wanted shelf none content new;
      })

  -- what the one call made
  record MadeFirst (answer : Outcome) (u : FolderView) : Type 0 where
    key : Key
    is_made : answer ≡ outcome.Made key
    some : 0 < key.0
    next : v.next ≤ key.0
    held : FolderState
    steady : IsSteady u held
    matches : Matches es (made l x n key.0) held

  made_first : IsSteady v s → Matches es l s → FitsKind n → ((k : ℕ) → 0 < k → get s.tree k ≡ None → IsLocal (made l x n k)) → HasContents es None (Some n) seen wanted given bytes
      → (q : KeyPlace) → key_place l.keys n.place ≡ Some q → (answer : Outcome) (u : FolderView) → Succeeds (call_made n.kind q n.bit) answer v.next u.next
      → IsAnswered bytes (call_made n.kind q n.bit) v s answer u → answer ≢ outcome.Memory → MadeFirst answer u
  made_first steady is fits local contents q known answer u succeeds done room =
      let (k, made_k, now) = makes_key n.kind q n.bit bytes s answer done.held done.answers
      (folder_held es l s is n.place.parent.0 q.parent.0 (known_parts l.keys n.place q known).0 legal.parent)
      (vacant_held es l s is x n.place q absent known legal.free) done.well room in
      let above = key_new n.kind q n.bit answer v.next u.next k made_k succeeds in
      let none : get s.tree k.0 ≡ None = not_above s v.next k.0 steady.below above.1 (get s.tree k.0) refl in
      record {
        key = k;
        is_made = made_k;
        some = above.0;
        next = above.1;
        held = done.held;
        steady = done.steady;
        matches = subst (λ t. Matches es (made l x n k.0) t) (sym now)
            (made_matches k.0 q is steady.shelf none known fits contents.0 contents.1 (local k.0 above.0 none));
      }

  made_done : (answer : Outcome) (u : FolderView) → (first : MadeFirst answer u) → IsUnheld own first.key.0 → (last : Outcome) → Accepts own last ran.outcome
      → last ≡ answer → w ≡ u → IsMade es l x n ran w
  made_done answer u first free last accepts same view = record {
    key = first.key;
    ok = accepted own first.key ran.outcome (subst (λ a. Accepts own a ran.outcome) (same ∙ first.is_made) accepts) first.some free;
    held = first.held;
    steady = subst (λ z. IsSteady z first.held) (sym view) first.steady;
    matches = first.matches;
  }

  made_last : (answer : Outcome) (u : FolderView) → MadeFirst answer u → AreKeysBelow own v.next → (last : Outcome) → Accepts own last ran.outcome
      → ((is_success answer ≡ false) × (last ≡ answer)) ⊎ ((is_success answer ≡ true) × (count : ℕ) × Runs bytes answer [] u last count w) → IsMade es l x n ran w
  made_last answer u first below last accepts goes = elim goes [
    | inl h ↦ absurd (not_failed answer first.key first.is_made h.0)
    | inr h ↦ made_done answer u first (unheld_above own v.next first.key.0 below first.next) last accepts
        (none_left bytes answer [] u last h.1 w h.2 refl).0 (none_left bytes answer [] u last h.1 w h.2 refl).1
  ]

  made_by : IsSteady v s → Matches es l s → FitsKind n → AreKeysBelow own v.next → ((k : ℕ) → 0 < k → get s.tree k ≡ None → IsLocal (made l x n k))
      → HasContents es None (Some n) seen wanted given bytes → (q : KeyPlace) → key_place l.keys n.place ≡ Some q
      → (last : Outcome) → last ≢ outcome.Memory → Accepts own last ran.outcome → HasFirst bytes (call_made n.kind q n.bit) [] v last w → IsMade es l x n ran w
  made_by steady is fits below local contents q known last room accepts first =
      made_last first.answer first.view
      (made_first steady is fits local contents q known first.answer first.view first.called.keys (answered bytes (call_made n.kind q n.bit) v s first.answer first.view steady first.called)
      (room_first bytes (call_made n.kind q n.bit) [] v last w room first)) below last accepts first.goes

  calls_made : (q : KeyPlace) → key_place own n.place ≡ Some q → HasNewBytes n.kind given bytes wanted.hash
      → only (making n.kind n.bit given (key_place own n.place)) ≡ Some (call_made n.kind q n.bit ∷ [])
  calls_made q to new = ap (λ o. only (making n.kind n.bit given o)) to ∙ ap only (call_is n.kind q n.bit given bytes wanted.hash new)

  made_run : IsSteady v s → Matches es l s → FitsKind n → AreKeysBelow own v.next → ((k : ℕ) → 0 < k → get s.tree k ≡ None → IsLocal (made l x n k))
      → HasContents es None (Some n) seen wanted given bytes → (q : KeyPlace) → key_place l.keys n.place ≡ Some q
      → HasRun es bytes own (call_made n.kind q n.bit ∷ []) v ran w → IsMade es l x n ran w
  made_run steady is fits below local contents q known run =
      made_by steady is fits below local contents q known run.last run.room run.answer
      (first_of bytes outcome.Ok (call_made n.kind q n.bit ∷ []) v run.last run.made w run.runs (call_made n.kind q n.bit) [] refl)

  pub make_follows : IsSteady v s → Matches es l s → FitsKind n → AreKeysBelow own v.next → ((k : ℕ) → 0 < k → get s.tree k ≡ None → IsLocal (made l x n k))
      → KeysAgree own l.keys x None (Put n) → HasContents es None (Some n) seen wanted given bytes
      → RunsOp own bytes (only (making n.kind n.bit given (key_place own n.place))) v ran w → ran.outcome ≢ outcome.Memory → IsMade es l x n ran w
  make_follows steady is fits below local agree contents runs room =
      let parent = folder_key es l s is n.place.parent.0 legal.parent in
      let q = place_known l.keys n.place parent.0 parent.1 in
      let to : key_place own n.place ≡ Some q.0 = known_alike own l.keys n.place agree.to ∙ q.1 in
      made_run steady is fits below local contents q.0 q.1
      (has_run es bytes own (call_made n.kind q.0 n.bit ∷ []) v ran w (subst (λ cs. RunsOp own bytes cs v ran w) (calls_made q.0 to contents.1) runs) room)
