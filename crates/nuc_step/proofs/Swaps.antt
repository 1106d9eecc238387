-- Two Dones of operations that are separate: what each makes of a part of a client, and that the order makes no difference.
use Rattle.std.proofs.Common.{◌≡◌, ◌≢◌, ◌+◌, ◌-◌, ◌≤◌, ◌++◌, ◌==◌, ℕ, zero, suc, Bool, true, false, cond, List, [], ◌∷◌, length, take, drop, Option, None, Some, refl, sym, ◌∙◌, ap, inl, inr, arith}
use Rattle.std.proofs.lemmas.Bool.{cases_lt, eqb-true}
use Rattle.std.proofs.lemmas.List.{drop_all, drop_min, length-take, take_all}
use Rattle.std.specs.FinMap.{get}
use Rattle.nuc_base.specs.Changes.{changed}
use Rattle.nuc_base.specs.Ready.{all_changed}
use Rattle.nuc_base.specs.Trees.{Nodes}
use Rattle.nuc_base.specs.declared.change.Change.{Change}
use Rattle.nuc_base.specs.declared.change.Change.TheVariants.{Keep, Put, Cut}
use Rattle.nuc_base.specs.declared.node.Node.{Node}
use Rattle.nuc_base.proofs.Commute.{same_after}
use Rattle.nuc_class.specs.declared.op.Op.{Op}
use Rattle.nuc_flights.specs.Flights.{Flight, Stage, planned, started, taken, without}
use Rattle.nuc_flights.specs.declared.taken.Taken.TheVariants as came
use Rattle.nuc_folder.specs.Outcome.{is_success}
use Rattle.nuc_folder.specs.declared.outcome.Outcome.{Outcome}
use Rattle.nuc_folder.specs.declared.outcome.Outcome.TheVariants as outcome
use Rattle.nuc_journal.specs.declared.entry.Entry.{Entry}
use Rattle.nuc_lookup.proofs.Maps as numbers
use Rattle.nuc_lookup.specs.Rows.{Numbers}
use Rattle.nuc_lookup.specs.Undo.{led}
use Rattle.nuc_observe.specs.Keys.{KeyMap}
use Rattle.nuc_replica.specs.Local.{moved_key}
use Rattle.nuc_replica.specs.Remote.{RemoteState, caught_up, with_entries}
use Rattle.nuc_replica.proofs.Followed.{entry_by_entry, no_entry}
use Rattle.nuc_step.specs.Client.{ClientState}
use Rattle.nuc_step.specs.Steps.{finished, is_split, keys_after, keys_with, landed, local_changes, split_changes}
use Rattle.nuc_step.specs.declared.reason.Reason.TheVariants as reason
use Rattle.nuc_step.proofs.Ready.{ended_as, ended_at}

-- REMOTE. Entries behind entries
with_more : (s : RemoteState) (es fs : List Entry) → with_entries (with_entries s es) fs ≡ with_entries s (es ++ fs)
with_more s [] fs = ap (λ (t : RemoteState). with_entries t fs) (no_entry s)
with_more s (e ∷ es) fs =
    ap (λ (t : RemoteState). with_entries t fs) (entry_by_entry s e es) ∙ with_more (with_entries s (e ∷ [])) es fs ∙ sym (entry_by_entry s e (es ++ fs))

take_none : {X : Type 0} (n : ℕ) → ◌≡◌ {A = List X} (take n []) []
take_none zero = refl
take_none (suc n) = refl

take_twice : {X : Type 0} (k j : ℕ) (l : List X) → take k l ++ take j (drop k l) ≡ take (k + j) l
take_twice zero j l = let same : j ≡ zero + j = omega arith in ap (λ n. take n l) same
take_twice (suc k) j [] = take_none j ∙ sym (take_none (suc k + j))
take_twice (suc k) j (x ∷ l) = let more : suc k + j ≡ suc (k + j) = omega arith in ap (λ t. x ∷ t) (take_twice k j l) ∙ ap (λ n. take n (x ∷ l)) (sym more)

-- what is ahead after catching up
left_ahead : (rev : ℕ) (s : RemoteState) → (caught_up rev s).ahead ≡ drop (rev - s.cursor) s.ahead
left_ahead rev s = ap (λ n. drop n s.ahead) (length-take (rev - s.cursor) s.ahead) ∙ drop_min (rev - s.cursor) s.ahead

cursor_then : (rev : ℕ) (s : RemoteState) → rev - s.cursor ≤ length s.ahead → (caught_up rev s).cursor ≡ s.cursor + (rev - s.cursor)
cursor_then rev s within =
    let long = length-take (rev - s.cursor) s.ahead in
    ap (λ n. s.cursor + n) (long ∙ omega (arith, within))

caught_up_none : (rev : ℕ) (s : RemoteState) → rev - s.cursor ≡ 0 → caught_up rev s ≡ s
caught_up_none rev s none = ap (λ n. with_entries s (take n s.ahead)) none ∙ no_entry s

caught_up_all : (rev : ℕ) (s : RemoteState) → s.ahead ≡ [] → caught_up rev s ≡ s
caught_up_all rev s none = ap (λ es. with_entries s (take (rev - s.cursor) es)) none ∙ ap (with_entries s) (take_none (rev - s.cursor)) ∙ no_entry s

-- up to the earlier of the two there is nothing more to catch up
caught_up_before : (a b : ℕ) (s : RemoteState) → a ≤ b → caught_up a (caught_up b s) ≡ caught_up b s
caught_up_before a b s before = elim (cases_lt (length s.ahead) (b - s.cursor)) [
  | inl beyond ↦ caught_up_all a (caught_up b s) (left_ahead b s ∙ drop_all (b - s.cursor) s.ahead (omega (arith, beyond)))
  | inr within ↦ let at = cursor_then b s within in caught_up_none a (caught_up b s) (ap (λ n. a - n) at ∙ omega (arith, before))
]

-- and the later is as if it were caught up with at once
caught_up_later : (a b : ℕ) (s : RemoteState) → b ≤ a → caught_up a (caught_up b s) ≡ caught_up a s
caught_up_later a b s later = elim (cases_lt (length s.ahead) (b - s.cursor)) [
  | inl beyond ↦
      caught_up_all a (caught_up b s) (left_ahead b s ∙ drop_all (b - s.cursor) s.ahead (omega (arith, beyond)))
      ∙ ap (with_entries s) (take_all (b - s.cursor) s.ahead (omega (arith, beyond)) ∙ sym (take_all (a - s.cursor) s.ahead (omega (arith, beyond, later))))
  | inr within ↦
      let k : ℕ = b - s.cursor in
      let j : ℕ = a - (s.cursor + k) in
      let fewer : take (a - (caught_up b s).cursor) (caught_up b s).ahead ≡ take j (drop k s.ahead) =
      ap (λ n. take (a - n) (caught_up b s).ahead) (cursor_then b s within) ∙ ap (take j) (left_ahead b s) in
      let sum : k + j ≡ a - s.cursor = omega (arith, later) in
      ap (with_entries (caught_up b s)) fewer
      ∙ with_more s (take k s.ahead) (take j (drop k s.ahead))
      ∙ ap (with_entries s) (take_twice k j s.ahead ∙ ap (λ n. take n s.ahead) sum)
]

caught_up_swap : (a b : ℕ) (s : RemoteState) → caught_up a (caught_up b s) ≡ caught_up b (caught_up a s)
caught_up_swap a b s = elim (cases_lt a b) [
  | inl less ↦ caught_up_before a b s (omega (arith, less)) ∙ sym (caught_up_later b a s (omega (arith, less)))
  | inr more ↦ caught_up_later a b s more ∙ sym (caught_up_before b a s more)
]

-- the revision up to which a Done catches up; 0 leaves Remote as it is
abbrev pub rev_at : Stage → ℕ
rev_at (taken (came.Accepted rev)) = rev
rev_at _ = 0

-- KEYS
led_at : (m : Numbers) (x : ℕ) (v : Option ℕ) → get (led m x v) x ≡ v
led_at m x None = numbers.get_cut_same m x
led_at m x (Some n) = numbers.get_put_same m x n

pub led_off : (m : Numbers) (x : ℕ) (v : Option ℕ) (y : ℕ) → y ≢ x → get (led m x v) y ≡ get m y
led_off m x None y other = numbers.get_cut_other m x y other
led_off m x (Some n) y other = numbers.get_put_other m x n y other

pub led_here : (m : Numbers) (x : ℕ) (v : Option ℕ) (y : ℕ) → y ≡ x → get (led m x v) y ≡ v
led_here m x v y same = ap (get (led m x v)) same ∙ led_at m x v

-- a number that leads where it led
led_same : (m : Numbers) (x : ℕ) → led m x (get m x) ≡ m
led_same m x = numbers.same_numbers (led m x (get m x)) m (λ y. elim (numbers.same_or_not y x) [
  | inl same ↦ led_here m x (get m x) y same ∙ ap (get m) (sym same)
  | inr other ↦ led_off m x (get m x) y other
])

led_swap : (m : Numbers) (x y : ℕ) (v w : Option ℕ) → x ≢ y → led (led m x v) y w ≡ led (led m y w) x v
led_swap m x y v w apart = numbers.same_numbers (led (led m x v) y w) (led (led m y w) x v) (λ q. elim (numbers.same_or_not q x) [
  | inl same ↦
      let off : q ≢ y = λ e. apart (sym same ∙ e) in
      led_off (led m x v) y w q off ∙ led_here m x v q same ∙ sym (led_here (led m y w) x v q same)
  | inr off ↦ elim (numbers.same_or_not q y) [
    | inl same ↦ led_here (led m x v) y w q same ∙ sym (led_off (led m y w) x v q off ∙ led_here m y w q same)
    | inr too ↦ led_off (led m x v) y w q too ∙ led_off m x v q off ∙ sym (led_off (led m y w) x v q off ∙ led_off m y w q too)
  ]
])

-- the key that an identity has after its change, by the one before
abbrev pub key_with : Option Node → Change → Outcome → Option ℕ → Option ℕ
key_with None (Put n) (outcome.Made k) key = Some k.0
key_with old Cut o key = None
key_with old _ o key = key

keys_led : (old : Option Node) (c : Change) (o : Outcome) (x : ℕ) (ks : KeyMap) → keys_with old c o x ks ≡ led ks x (key_with old c o (get ks x))
keys_led None (Put n) (outcome.Made k) x ks = refl
keys_led None (Put n) outcome.Ok x ks = sym (led_same ks x)
keys_led None (Put n) outcome.Changed x ks = sym (led_same ks x)
keys_led None (Put n) outcome.Taken x ks = sym (led_same ks x)
keys_led None (Put n) outcome.NotEmpty x ks = sym (led_same ks x)
keys_led None (Put n) outcome.Failed x ks = sym (led_same ks x)
keys_led None (Put n) outcome.Memory x ks = sym (led_same ks x)
keys_led None Keep o x ks = sym (led_same ks x)
keys_led None Cut o x ks = refl
keys_led (Some m) (Put n) o x ks = sym (led_same ks x)
keys_led (Some m) Keep o x ks = sym (led_same ks x)
keys_led (Some m) Cut o x ks = refl

-- WHAT IS IN FLIGHT
without_swap : (n m : ℕ) (fs : List Flight) → n ≢ m → without n (without m fs) ≡ without m (without n fs)
without_swap n m [] apart = refl
without_swap n m (f ∷ fs) apart = elim (f.op.number == n) as (λ b. (f.op.number == n) ≡ b → without n (cond (f.op.number == m) fs (f ∷ without m fs)) ≡ without m (cond b fs (f ∷ without n fs))) [
  | true ↦ λ hit. elim (f.op.number == m) as (λ b. (f.op.number == m) ≡ b → without n (cond b fs (f ∷ without m fs)) ≡ without m fs) [
    | true ↦ λ too. absurd (apart (sym (eqb-true f.op.number n hit) ∙ eqb-true f.op.number m too))
    | false ↦ λ miss. ap (λ b. cond b (without m fs) (f ∷ without n (without m fs))) hit
  ] refl
  | false ↦ λ miss. elim (f.op.number == m) as (λ b. (f.op.number == m) ≡ b → without n (cond b fs (f ∷ without m fs)) ≡ cond b (without n fs) (f ∷ without m (without n fs))) [
    | true ↦ λ hit. refl
    | false ↦ λ too. ap (λ b. cond b (without m fs) (f ∷ without n (without m fs))) miss ∙ ap (λ t. f ∷ t) (without_swap n m fs apart)
  ] refl
] refl

abbrev pub flying_at : Stage → ℕ → List Flight → List Flight
flying_at (taken t) n fs = without n fs
flying_at planned n fs = fs
flying_at started n fs = fs

flying_swap : (st su : Stage) (n m : ℕ) (fs : List Flight) → n ≢ m → flying_at st n (flying_at su m fs) ≡ flying_at su m (flying_at st n fs)
flying_swap (taken t) (taken u) n m fs apart = without_swap n m fs apart
flying_swap (taken t) planned n m fs apart = refl
flying_swap (taken t) started n m fs apart = refl
flying_swap planned su n m fs apart = refl
flying_swap started su n m fs apart = refl

-- THE WHOLE CLIENT, of an operation of one identity
abbrev pub shown_at : Stage → Bool
shown_at (taken (came.Folder o)) = is_success o
shown_at _ = false

abbrev pub lands_at : Stage → Bool
lands_at (taken (came.Folder o)) = is_success o
lands_at (taken (came.Accepted rev)) = true
lands_at _ = false

abbrev pub when : Bool → Change → Change
when true c = c
when false c = Keep

abbrev pub key_at : Op → Stage → Option ℕ → Option ℕ
key_at op (taken (came.Folder o)) key = cond (is_success o) (key_with op.old_local op.local o key) key
key_at op _ key = key

abbrev pub one_ended : Op → Stage → ℕ → ClientState → ClientState
one_ended op st n c = record {
  remote = caught_up (rev_at st) c.remote;
  local = record {
    tree = changed c.local.tree op.id.0 (when (shown_at st) op.local);
    keys = led c.local.keys op.id.0 (key_at op st (get c.local.keys op.id.0));
  };
  synced = changed c.synced op.id.0 (when (lands_at st) op.synced);
  flights = flying_at st n c.flights;
  changes = c.changes + cond (shown_at st) 1 0;
  next_op = c.next_op;
}

same_client : (a b : ClientState) → a.remote ≡ b.remote → a.local.tree ≡ b.local.tree → a.local.keys ≡ b.local.keys → a.synced ≡ b.synced → a.flights ≡ b.flights
    → a.changes ≡ b.changes → a.next_op ≡ b.next_op → a ≡ b
same_client a b remote tree keys synced flights changes next =
    ap (λ (r : RemoteState). record { remote = r; local = a.local; synced = a.synced; flights = a.flights; changes = a.changes; next_op = a.next_op }) remote
    ∙ ap (λ (t : Nodes). record { remote = b.remote; local = record { tree = t; keys = a.local.keys }; synced = a.synced; flights = a.flights; changes = a.changes; next_op = a.next_op }) tree
    ∙ ap (λ (k : KeyMap). record { remote = b.remote; local = record { tree = b.local.tree; keys = k }; synced = a.synced; flights = a.flights; changes = a.changes; next_op = a.next_op }) keys
    ∙ ap (λ (s : Nodes). record { remote = b.remote; local = b.local; synced = s; flights = a.flights; changes = a.changes; next_op = a.next_op }) synced
    ∙ ap (λ (f : List Flight). record { remote = b.remote; local = b.local; synced = b.synced; flights = f; changes = a.changes; next_op = a.next_op }) flights
    ∙ ap (λ (k : ℕ). record { remote = b.remote; local = b.local; synced = b.synced; flights = b.flights; changes = k; next_op = a.next_op }) changes
    ∙ ap (λ (k : ℕ). record { remote = b.remote; local = b.local; synced = b.synced; flights = b.flights; changes = b.changes; next_op = k }) next

no_more : (k : ℕ) → k ≡ k + 0
no_more k = omega arith

none_caught_up : (s : RemoteState) → s ≡ caught_up 0 s
none_caught_up s = sym (caught_up_none 0 s (omega arith))

-- by whether the folder did it
abbrev one_as : Op → Outcome → Bool → ℕ → ClientState → ClientState
one_as op o b n c = record {
  remote = caught_up 0 c.remote;
  local = record {
    tree = changed c.local.tree op.id.0 (when b op.local);
    keys = led c.local.keys op.id.0 (cond b (key_with op.old_local op.local o (get c.local.keys op.id.0)) (get c.local.keys op.id.0));
  };
  synced = changed c.synced op.id.0 (when b op.synced);
  flights = without n c.flights;
  changes = c.changes + cond b 1 0;
  next_op = c.next_op;
}

module _ (op : Op) (n : ℕ) (c : ClientState) (plain : is_split op.verb ≡ false) where
  tree_plain : all_changed c.local.tree (local_changes op) ≡ changed c.local.tree op.id.0 op.local
  tree_plain = ap (λ b. all_changed c.local.tree (cond b (split_changes op) ((op.id.0, op.local) ∷ []))) plain

  keys_plain : (o : Outcome) → keys_after op o c.local.keys ≡ led c.local.keys op.id.0 (key_with op.old_local op.local o (get c.local.keys op.id.0))
  keys_plain o =
      ap (λ b. cond b (moved_key c.local.keys op.id.0 op.other.0 (get c.local.keys op.id.0)) (keys_with op.old_local op.local o op.id.0 c.local.keys)) plain
      ∙ keys_led op.old_local op.local o op.id.0 c.local.keys

  in_folder : (o : Outcome) (b : Bool) → ended_as op (came.Folder o) (cond b None (Some (reason.Folder o))) n c ≡ one_as op o b n c
  in_folder o true = same_client (landed op (came.Folder o) (finished n (came.Folder o) c)) (one_as op o true n c) (none_caught_up c.remote) tree_plain (keys_plain o) refl refl refl refl
  in_folder o false =
      same_client (finished n (came.Folder o) c) (one_as op o false n c) (none_caught_up c.remote) refl (sym (led_same c.local.keys op.id.0)) refl refl (no_more c.changes) refl

  stays : (st : Stage) → rev_at st ≡ 0 → shown_at st ≡ false → lands_at st ≡ false → key_at op st (get c.local.keys op.id.0) ≡ get c.local.keys op.id.0
      → (fs : List Flight) → flying_at st n c.flights ≡ fs → record c { flights = fs } ≡ one_ended op st n c
  stays st rev shown lands key fs flying =
      same_client (record c { flights = fs }) (one_ended op st n c) (none_caught_up c.remote ∙ ap (λ r. caught_up r c.remote) (sym rev))
      (ap (λ b. changed c.local.tree op.id.0 (when b op.local)) (sym shown))
      (sym (led_same c.local.keys op.id.0) ∙ ap (led c.local.keys op.id.0) (sym key))
      (ap (λ b. changed c.synced op.id.0 (when b op.synced)) (sym lands))
      (sym flying)
      (no_more c.changes ∙ ap (λ b. c.changes + cond b 1 0) (sym shown))
      refl

  -- a Done, by the stage
  pub ended_one : (st : Stage) → ended_at op st n c ≡ one_ended op st n c
  ended_one planned = stays planned refl refl refl refl c.flights refl
  ended_one started = stays started refl refl refl refl c.flights refl
  ended_one (taken (came.Folder o)) = in_folder o (is_success o)
  ended_one (taken (came.Accepted rev)) =
      same_client (landed op (came.Accepted rev) (finished n (came.Accepted rev) c)) (one_ended op (taken (came.Accepted rev)) n c) refl refl
      (sym (led_same c.local.keys op.id.0)) refl refl (no_more c.changes) refl
  ended_one (taken (came.Refused why)) = stays (taken (came.Refused why)) refl refl refl refl (without n c.flights) refl

-- IN EITHER ORDER
abbrev key_here : Op → Stage → KeyMap → Option ℕ
key_here op st ks = key_at op st (get ks op.id.0)

keys_swap : (op oq : Op) (st su : Stage) (ks : KeyMap) → op.id.0 ≢ oq.id.0
    → led (led ks oq.id.0 (key_here oq su ks)) op.id.0 (key_here op st (led ks oq.id.0 (key_here oq su ks)))
    ≡ led (led ks op.id.0 (key_here op st ks)) oq.id.0 (key_here oq su (led ks op.id.0 (key_here op st ks)))
keys_swap op oq st su ks apart =
    ap (λ v. led (led ks oq.id.0 (key_here oq su ks)) op.id.0 (key_at op st v)) (led_off ks oq.id.0 (key_here oq su ks) op.id.0 apart)
    ∙ led_swap ks oq.id.0 op.id.0 (key_here oq su ks) (key_here op st ks) (λ e. apart (sym e))
    ∙ sym (ap (λ v. led (led ks op.id.0 (key_here op st ks)) oq.id.0 (key_at oq su v)) (led_off ks op.id.0 (key_here op st ks) oq.id.0 (λ e. apart (sym e))))

one_swap : (op oq : Op) (st su : Stage) (n m : ℕ) (c : ClientState) → n ≢ m → op.id.0 ≢ oq.id.0
    → one_ended op st n (one_ended oq su m c) ≡ one_ended oq su m (one_ended op st n c)
one_swap op oq st su n m c numbers ids =
    same_client (one_ended op st n (one_ended oq su m c)) (one_ended oq su m (one_ended op st n c))
    (caught_up_swap (rev_at st) (rev_at su) c.remote)
    (same_after c.local.tree oq.id.0 op.id.0 (when (shown_at su) oq.local) (when (shown_at st) op.local) (λ e. ids (sym e)))
    (keys_swap op oq st su c.local.keys ids)
    (same_after c.synced oq.id.0 op.id.0 (when (lands_at su) oq.synced) (when (lands_at st) op.synced) (λ e. ids (sym e)))
    (flying_swap st su n m c.flights numbers)
    (omega arith)
    refl

pub ended_swap : (op oq : Op) (st su : Stage) (n m : ℕ) (c : ClientState) → is_split op.verb ≡ false → is_split oq.verb ≡ false → n ≢ m → op.id.0 ≢ oq.id.0
    → ended_at op st n (ended_at oq su m c) ≡ ended_at oq su m (ended_at op st n c)
ended_swap op oq st su n m c one other numbers ids =
    ended_one op n (ended_at oq su m c) one st ∙ ap (one_ended op st n) (ended_one oq m c other su) ∙ one_swap op oq st su n m c numbers ids
    ∙ ap (one_ended oq su m) (sym (ended_one op n c one st)) ∙ sym (ended_one oq m (ended_at op st n c) other su)
