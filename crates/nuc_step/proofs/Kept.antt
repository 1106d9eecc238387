-- A client stays what it is, whatever a call makes of its parts.
use Rattle.std.specs.Prelude.{◌*◌, All, IfSome, IsSomeAnd, MatchBool, SomeIff}
use Rattle.std.proofs.Common.{◌≡◌, ◌≢◌, ◌<◌, ◌≤◌, ◌+◌, ℕ, zero, suc, Bool, true, false, List, [], ◌∷◌, get_or, length, map, take, drop, Option, None, Some, refl, sym, ◌∙◌, ap, subst, inl, inr, arith}
use Rattle.std.proofs.lemmas.List.{length-append, length-drop, length-map}
use Rattle.std.proofs.lemmas.List.Elements.{All-map, All-nil, All-weaker}
use Rattle.std.specs.FinMap.{get}
use Rattle.nuc_base.specs.Trees.{Nodes, WellFormed}
use Rattle.nuc_base.proofs.Maps.{same_or_not}
use Rattle.nuc_base.specs.declared.change.Change.{Change}
use Rattle.nuc_base.specs.declared.change.Change.TheVariants.{Keep, Put, Cut}
use Rattle.nuc_class.specs.Due.{FitsOp}
use Rattle.nuc_class.specs.declared.op.Op.{Op}
use Rattle.nuc_flights.specs.Flights.{Flight, FlightsState, IsPlanned, IsStarted, IsTaken, Stage, StandsAt, as_planned, flight_of, planned, staged, started, taken, without}
use Rattle.nuc_flights.specs.declared.taken.Taken.{Taken}
use Rattle.nuc_flights.specs.declared.taken.Taken.TheVariants as came
use Rattle.nuc_journal.specs.Entries.{with_value}
use Rattle.nuc_journal.specs.declared.entry.Entry.{Entry}
use Rattle.nuc_replica.specs.Local.{IsLocal, KeepsLocal, LocalState, LocalStates}
use Rattle.nuc_replica.specs.Remote.{Agree, Follows, GoesOn, IsRemote, RemoteState, RemoteStates, caught_up, heard, with_entries}
use Rattle.nuc_replica.proofs.Followed.{entry_by_entry, follows_first, follows_rest, no_entry, remote_with}
use Rattle.nuc_replica.proofs.Heard.{goes_on_heard}
use Rattle.nuc_step.specs.Calls.{MayBeTaken}
use Rattle.nuc_step.specs.Client.{ClientState}
use Rattle.nuc_step.specs.Launch.{IsFresh, LaidOne, LaidOver}
use Rattle.nuc_step.specs.Sound.{AreLaid, AreNumbered, AreUntaken, ChangedOne, ChangedSynced, FitsStage, FitsTaken, IsClient, IsFlight, IsKept, IsLaid, MayFly, known_to}
use Rattle.nuc_step.specs.Steps.{numbered}
use Rattle.nuc_step.specs.declared.counts.Counts.{Counts}
use Rattle.nuc_step.proofs.Flying.{all_numbered, all_staged, all_without, below_next, length_numbered, length_staged, length_without, number_of, numbered_staged, numbered_without, numbers_from, others_without, planned_numbers, flight_in}
use Rattle.nuc_undo.specs.Laid.{Laid}
use Rattle.nuc_undo.specs.State.{UndoState, earliest, settled_of}
use Rattle.nuc_undo.specs.Steps.{Keeps, KeepsTree}

-- THE SERVER'S TREE moves on
pub entries_keep : (s : RemoteState) (es : List Entry) → IsRemote s → Follows s es → IsRemote (with_entries s es)
entries_keep s [] remote follows = subst IsRemote (sym (no_entry s)) remote
entries_keep s (e ∷ es) remote follows =
    subst IsRemote (sym (entry_by_entry s e es))
    (entries_keep (with_entries s (e ∷ [])) es (remote_with s e remote (follows_first s e es follows)) (follows_rest s e es follows))

front_goes_on : (k cursor : ℕ) (m : Nodes) (es : List Entry) → GoesOn cursor m es → GoesOn cursor m (take k es)
front_goes_on zero cursor m es on = tt
front_goes_on (suc k) cursor m [] on = tt
front_goes_on (suc k) cursor m (e ∷ es) on = (on.0, front_goes_on k (cursor + 1) (with_value m e.id.0 e.value) es on.1)

front_agrees : (k : ℕ) (known es : List Entry) → Agree known es → Agree known (take k es)
front_agrees zero [] es agree = tt
front_agrees zero (a ∷ known) es agree = tt
front_agrees (suc k) [] es agree = tt
front_agrees (suc k) (a ∷ known) [] agree = tt
front_agrees (suc k) (a ∷ known) (e ∷ es) agree = (agree.0, front_agrees k known es agree.1)

pub front_follows : (k : ℕ) (s : RemoteState) (es : List Entry) → Follows s es → Follows s (take k es)
front_follows k s es follows = record { goes_on = front_goes_on k s.cursor s.tree es follows.goes_on; agrees = front_agrees k s.ahead es follows.agrees }

same_agrees : (es : List Entry) → Agree es es
same_agrees [] = tt
same_agrees (e ∷ es) = (refl, same_agrees es)

pub caught_up_keeps : (rev : ℕ) (s : RemoteState) → IsRemote s → IsRemote (caught_up rev s)
caught_up_keeps rev s remote =
    let follows : Follows s s.ahead = record { goes_on = remote.ahead; agrees = same_agrees s.ahead } in
    entries_keep s (take _ s.ahead) remote (front_follows _ s s.ahead follows)

pub heard_keeps : (news : List Entry) (s : RemoteState) → IsRemote s → Follows s news → IsRemote (heard news s)
heard_keeps news s remote follows = record {
  form = remote.form;
  revisions = remote.revisions;
  ahead = goes_on_heard s.cursor s.tree s.ahead news follows.agrees remote.ahead follows.goes_on;
}

pub known_entries : (s : RemoteState) (es : List Entry) → known_to s ≤ known_to (with_entries s es)
known_entries s es = let rest = length-drop (length es) s.ahead in omega (arith, rest)

pub known_heard : (news : List Entry) (s : RemoteState) → known_to s ≤ known_to (heard news s)
known_heard news s = let size = length-append s.ahead (drop (length s.ahead) news) in omega (arith, size)

pub news_known : (news : List Entry) (s : RemoteState) → s.cursor + length news ≤ known_to (heard news s)
news_known news s =
    let size = length-append s.ahead (drop (length s.ahead) news) in
    let rest = length-drop (length s.ahead) news in
    omega (arith, size, rest)

-- WHAT IS IN FLIGHT may be there still where more is known
pub later_taken : (k j : ℕ) (op : Op) (t : Taken) → k ≤ j → FitsTaken k op t → FitsTaken j op t
later_taken k j op (came.Folder o) le fits = fits
later_taken k j op (came.Accepted rev) le fits = omega (arith, le, fits)
later_taken k j op (came.Refused r) le fits = tt

later_stage : (k j : ℕ) (op : Op) (stage : Stage) → k ≤ j → FitsStage k op stage → FitsStage j op stage
later_stage k j op planned le fits = tt
later_stage k j op started le fits = tt
later_stage k j op (taken t) le fits = later_taken k j op t le fits

pub later_flight : (k j : ℕ) → k ≤ j → (f : Flight) → IsFlight k f → IsFlight j f
later_flight k j le f is = record { op = is.op; stage = later_stage k j f.op f.stage le is.stage }

-- WHAT IS LAID BY for it
is_laid : (laid new : Laid) (n : ℕ) (c : Change) → get new n ≡ get laid n → IsLaid laid n c → IsLaid new n c
is_laid laid new n Keep same is = tt
is_laid laid new n (Put node) same is = same ∙ is
is_laid laid new n Cut same is = tt

are_laid : (l m s t : Laid) (f : Flight) → get m f.op.number ≡ get l f.op.number → get t f.op.number ≡ get s f.op.number → AreLaid l s f → AreLaid m t f
are_laid l m s t f local synced are = record { local = is_laid l m f.op.number f.op.local local are.local; synced = is_laid s t f.op.number f.op.synced synced are.synced }

pub same_then : (r q : RemoteState) (l m : LocalState) (s t : Nodes) (fs : List Flight) (c : Counts) → q ≡ r → m ≡ l → t ≡ s
    → ◌≡◌ {A = ClientState}
    (record { remote = r; local = l; synced = s; flights = fs; changes = c.changes; next_op = c.next_op })
    (record { remote = q; local = m; synced = t; flights = fs; changes = c.changes; next_op = c.next_op })
same_then r q l m s t fs c remote local synced = rw (remote, local, synced)

-- THE SERVER'S TREE HAS MOVED ON, or more is known
pub kept_remote : (r q : RemoteStates) (l : LocalStates) (s : UndoState) (fs : FlightsState) (c d : Counts)
    → q.settled ≡ r.settled → IsRemote q.now → known_to r.now ≤ known_to q.now → IsKept r l s fs c d → IsKept q l s fs c d
kept_remote r q l s fs c d same remote later kept = record {
  now = record {
    remote = remote;
    local = kept.now.local;
    synced = kept.now.synced;
    flights = All-weaker (IsFlight (known_to r.now)) (IsFlight (known_to q.now)) (later_flight (known_to r.now) (known_to q.now) later) fs.now kept.now.flights;
    numbers = kept.now.numbers;
  };
  settled = subst IsClient (same_then r.settled q.settled l.settled l.settled (settled_of s) (settled_of s) fs.settled d same refl refl) kept.settled;
  later = kept.later;
  room = kept.room;
  room_then = kept.room_then;
  laid = kept.laid;
  laid_then = kept.laid_then;
  local_untaken = kept.local_untaken;
  synced_untaken = kept.synced_untaken;
  count = kept.count;
  count_then = kept.count_then;
}

pub kept_pulled : (r q : RemoteStates) (l : LocalStates) (s : UndoState) (fs : FlightsState) (c d : Counts) (es : List Entry)
    → q.now ≡ with_entries r.now es → q.settled ≡ r.settled → Follows r.now es → IsKept r l s fs c d → IsKept q l s fs c d
kept_pulled r q l s fs c d es is then follows kept =
    kept_remote r q l s fs c d then (subst IsRemote (sym is) (entries_keep r.now es kept.now.remote follows)) (subst (λ t. known_to r.now ≤ known_to t) (sym is) (known_entries r.now es)) kept

pub kept_heard : (r q : RemoteStates) (l : LocalStates) (s : UndoState) (fs : FlightsState) (c d : Counts) (news : List Entry)
    → q.now ≡ heard news r.now → q.settled ≡ r.settled → Follows r.now news → IsKept r l s fs c d → IsKept q l s fs c d
kept_heard r q l s fs c d news is then follows kept =
    kept_remote r q l s fs c d then (subst IsRemote (sym is) (heard_keeps news r.now kept.now.remote follows)) (subst (λ t. known_to r.now ≤ known_to t) (sym is) (known_heard news r.now)) kept

pub kept_caught_up : (r q : RemoteStates) (l : LocalStates) (s : UndoState) (fs : FlightsState) (c d : Counts) (rev : ℕ)
    → q.now ≡ caught_up rev r.now → q.settled ≡ r.settled → IsKept r l s fs c d → IsKept q l s fs c d
kept_caught_up r q l s fs c d rev is then kept =
    kept_remote r q l s fs c d then (subst IsRemote (sym is) (caught_up_keeps rev r.now kept.now.remote)) (subst (λ t. known_to r.now ≤ known_to t) (sym is) (known_entries r.now _)) kept

-- ONE FLIGHT HAS COME TO ANOTHER STAGE
pub kept_staged : (r : RemoteStates) (l : LocalStates) (s : UndoState) (fs : FlightsState) (c d : Counts) (n : ℕ) (stage : Stage)
    → ((f : Flight) → flight_of n fs.now ≡ Some f → FitsStage (known_to r.now) f.op stage)
    → IsKept r l s fs c d → IsKept r l s (record { now = staged n stage fs.now; settled = fs.settled }) c d
kept_staged r l s fs c d n stage fits kept =
    let size = length_staged n stage fs.now in
    record {
      now = record {
        remote = kept.now.remote;
        local = kept.now.local;
        synced = kept.now.synced;
        flights = all_staged (IsFlight (known_to r.now)) n stage fs.now (λ f there is. record { op = is.op; stage = fits f there }) kept.now.flights;
        numbers = numbered_staged n stage fs.now c.next_op kept.now.numbers;
      };
      settled = kept.settled;
      later = kept.later;
      room = record { local = omega (arith, size, kept.room.local); synced = omega (arith, size, kept.room.synced) };
      room_then = kept.room_then;
      laid = all_staged (AreLaid l.laid s.laid) n stage fs.now (λ f there are. record { local = are.local; synced = are.synced }) kept.laid;
      laid_then = kept.laid_then;
      local_untaken = kept.local_untaken;
      synced_untaken = kept.synced_untaken;
      count = omega (arith, size, kept.count);
      count_then = kept.count_then;
    }

same_flights : (fs : FlightsState) (now settled : List Flight) → fs.now ≡ now → fs.settled ≡ settled → record { now = now; settled = settled } ≡ fs
same_flights fs now settled is then = rw (sym is, sym then)

-- the flights are these, in other words
pub kept_flights : (r : RemoteStates) (l : LocalStates) (s : UndoState) (fs : FlightsState) (now settled : List Flight) (c d : Counts) → fs.now ≡ now → fs.settled ≡ settled
    → IsKept r l s (record { now = now; settled = settled }) c d → IsKept r l s fs c d
kept_flights r l s fs now settled c d is then kept = subst (λ gs. IsKept r l s gs c d) (same_flights fs now settled is then) kept

pub kept_started : (r : RemoteStates) (l : LocalStates) (s : UndoState) (fs gs : FlightsState) (c d : Counts) (n : ℕ) (b : Bool)
    → MatchBool b (StandsAt n IsPlanned fs.now × (gs.now ≡ staged n started fs.now)) (¬ (StandsAt n IsPlanned fs.now) × (gs.now ≡ fs.now))
    → gs.settled ≡ fs.settled → IsKept r l s fs c d → IsKept r l s gs c d
kept_started r l s fs gs c d n true (there, is) then kept = kept_flights r l s gs (staged n started fs.now) fs.settled c d is then (kept_staged r l s fs c d n started (λ f at. tt) kept)
kept_started r l s fs gs c d n false (none, is) then kept = kept_flights r l s gs fs.now fs.settled c d is then kept

fits_flight : (remote : RemoteState) (news : List Entry) (t : Taken) (o : Option Flight) (f : Flight) → IfSome o (MayBeTaken remote news t) → o ≡ Some f
    → FitsTaken (remote.cursor + length news) f.op t
fits_flight remote news t o f fits is = subst (λ p. IfSome p (MayBeTaken remote news t)) is fits

pub kept_taken : (r q : RemoteStates) (l : LocalStates) (s : UndoState) (fs gs : FlightsState) (c d : Counts) (n : ℕ) (t : Taken) (news : List Entry) (b : Bool)
    → q.now ≡ heard news r.now → q.settled ≡ r.settled → Follows r.now news → IfSome (flight_of n fs.now) (MayBeTaken r.now news t)
    → MatchBool b (StandsAt n IsStarted fs.now × (gs.now ≡ staged n (taken t) fs.now)) (¬ (StandsAt n IsStarted fs.now) × (gs.now ≡ fs.now))
    → gs.settled ≡ fs.settled → IsKept r l s fs c d → IsKept q l s gs c d
kept_taken r q l s fs gs c d n t news true is then follows fits (there, came) same kept =
    let known : r.now.cursor + length news ≤ known_to q.now = subst (λ u. r.now.cursor + length news ≤ known_to u) (sym is) (news_known news r.now) in
    kept_flights q l s gs (staged n (taken t) fs.now) fs.settled c d came same
    (kept_staged q l s fs c d n (taken t) (λ f at. later_taken (r.now.cursor + length news) (known_to q.now) f.op t known (fits_flight r.now news t (flight_of n fs.now) f fits at))
    (kept_heard r q l s fs c d news is then follows kept))
kept_taken r q l s fs gs c d n t news false is then follows fits (none, came) same kept =
    kept_flights q l s gs fs.now fs.settled c d came same (kept_heard r q l s fs c d news is then follows kept)

flight_there : (o : Option Flight) (P : Flight → Type 0) → IsSomeAnd o P → (f : Flight) × (o ≡ Some f)
flight_there None P there = absurd there
flight_there (Some f) P there = (f, refl)

-- ONE FLIGHT HAS ENDED, with a change of Local and Synced
pub kept_finished : (r : RemoteStates) (l m : LocalStates) (s t : UndoState) (fs : FlightsState) (c b d : Counts) (n : ℕ) (f : Flight)
    → flight_of n fs.now ≡ Some f → IsLocal m.now → ChangedOne n l m → WellFormed t.now → ChangedSynced n s t → b.next_op ≡ c.next_op → b.changes ≤ c.changes + 1
    → IsKept r l s fs c d → IsKept r m t (record { now = without n fs.now; settled = fs.settled }) b d
kept_finished r l m s t fs c b d n f there local one synced two next count kept =
    let size = length_without n fs.now f there in
    let numbers : AreNumbered fs.now c.next_op = kept.now.numbers in
    let below : n < c.next_op = subst (λ k. k < c.next_op) (number_of n fs.now f there) (flight_in (λ g. g.op.number < c.next_op) n fs.now f there (below_next fs.now c.next_op numbers)) in
    let others = others_without n fs.now c.next_op numbers in
    let laid = all_without (AreLaid l.laid s.laid) n fs.now kept.laid in
    record {
      now = record {
        remote = kept.now.remote;
        local = local;
        synced = synced;
        flights = all_without (IsFlight (known_to r.now)) n fs.now kept.now.flights;
        numbers = subst (AreNumbered (without n fs.now)) (sym next) (numbered_without n fs.now c.next_op numbers);
      };
      settled = subst IsClient (same_then r.settled r.settled l.settled m.settled (settled_of s) (settled_of t) fs.settled d refl one.settled two.settled) kept.settled;
      later = omega (arith, next, kept.later);
      room = record { local = omega (arith, size, one.spare, kept.room.local); synced = omega (arith, size, two.spare, kept.room.synced) };
      room_then = record { local = omega (arith, one.spare_then, kept.room_then.local); synced = omega (arith, two.spare_then, kept.room_then.synced) };
      laid = λ k g within. let g2 = get_or (without n fs.now) k g in
          are_laid l.laid m.laid s.laid t.laid g2 (one.laid g2.op.number (others k g within)) (two.laid g2.op.number (others k g within)) (laid k g within);
      laid_then = subst (λ laid. All (AreLaid laid t.laid_then) fs.settled) (sym one.laid_then) (subst (λ laid. All (AreLaid l.laid_then laid) fs.settled) (sym two.laid_then) kept.laid_then);
      local_untaken = λ i above. one.laid i (λ is. absurd (omega (arith, is, above, below, next))) ∙ kept.local_untaken i (omega (arith, above, next)) ∙ sym (ap (λ laid. get laid i) one.laid_then);
      synced_untaken = λ i above. two.laid i (λ is. absurd (omega (arith, is, above, below, next))) ∙ kept.synced_untaken i (omega (arith, above, next)) ∙ sym (ap (λ laid. get laid i) two.laid_then);
      count = omega (arith, size, count, kept.count);
      count_then = kept.count_then;
    }

-- NOTHING OF A PART OF A DONE
pub same_one : (n : ℕ) (l : LocalStates) → ChangedOne n l l
same_one n l = record { settled = refl; laid_then = refl; spare = omega arith; spare_then = omega arith; laid = λ i _. refl }

pub same_two : (n : ℕ) (s : UndoState) → ChangedSynced n s s
same_two n s = record { settled = refl; laid_then = refl; spare = omega arith; spare_then = omega arith; laid = λ i _. refl }

-- it ends without a change
pub kept_dropped : (r : RemoteStates) (l : LocalStates) (s : UndoState) (fs gs : FlightsState) (c d : Counts) (n : ℕ) (b : Bool)
    → MatchBool b (StandsAt n IsTaken fs.now × (gs.now ≡ without n fs.now)) (¬ (StandsAt n IsTaken fs.now) × (gs.now ≡ fs.now))
    → gs.settled ≡ fs.settled → IsKept r l s fs c d → IsKept r l s gs c d
kept_dropped r l s fs gs c d n true (there, is) then kept =
    let it = flight_there (flight_of n fs.now) (λ f. IsTaken f.stage) there in
    kept_flights r l s gs (without n fs.now) fs.settled c d is then
    (kept_finished r l l s s fs c c d n it.0 it.1 kept.now.local (same_one n l) kept.now.synced (same_two n s) refl (omega arith) kept)
kept_dropped r l s fs gs c d n false (none, is) then kept = kept_flights r l s gs fs.now fs.settled c d is then kept

-- NODES ARE LAID BY under numbers that no flight has had, and nothing else changes
pub record LaidBeyond (next : ℕ) (laid laid_then new new_then : Laid) : Type 0 where
  pub before_then : (n : ℕ) → n < next → get new_then n ≡ get laid_then n
  pub fresh : (n : ℕ) → get laid n ≡ get laid_then n → get new n ≡ get new_then n

pub same_beyond : (next : ℕ) (laid laid_then new new_then : Laid) → new ≡ laid → new_then ≡ laid_then → LaidBeyond next laid laid_then new new_then
same_beyond next laid laid_then new new_then same then = record {
  before_then = λ n _. ap (λ m. get m n) then;
  fresh = λ n is. ap (λ m. get m n) same ∙ is ∙ sym (ap (λ m. get m n) then);
}

pub over_beyond : (next : ℕ) (remote : RemoteState) (ops : List Op) (laid laid_then new new_then : Laid)
    → LaidOver (numbered next remote ops) laid laid_then new new_then → LaidBeyond next laid laid_then new new_then
over_beyond next remote ops laid laid_then new new_then over = record {
  before_then = λ n below. over.others_then n (All-weaker (λ op. next ≤ op.number) (λ op. n ≢ op.number) (λ op from is. absurd (omega (arith, from, is, below))) (numbered next remote ops) (numbers_from next remote ops));
  fresh = over.fresh;
}

settled_tree : (s t : UndoState) → KeepsTree s t → settled_of t ≡ settled_of s
settled_tree s t keeps = ap (λ m. earliest m t.past) keeps.now ∙ ap (earliest s.now) keeps.past

pub kept_laid : (r : RemoteStates) (l m : LocalStates) (s t : UndoState) (fs : FlightsState) (c d : Counts) → fs.now ≡ []
    → KeepsLocal l m → LaidBeyond c.next_op l.laid l.laid_then m.laid m.laid_then
    → KeepsTree s t → LaidBeyond c.next_op s.laid s.laid_then t.laid t.laid_then
    → IsKept r l s fs c d → IsKept r m t fs c d
kept_laid r l m s t fs c d none local over synced beyond kept =
    let below = below_next fs.settled d.next_op kept.settled.numbers in
    let past = ap (λ past. length past) synced.past in
    record {
      now = subst IsClient (same_then r.now r.now l.now m.now s.now t.now fs.now c refl local.now synced.now) kept.now;
      settled = subst IsClient (same_then r.settled r.settled l.settled m.settled (settled_of s) (settled_of t) fs.settled d refl local.settled (settled_tree s t synced)) kept.settled;
      later = kept.later;
      room = record { local = omega (arith, local.spare, kept.room.local); synced = omega (arith, synced.spare, kept.room.synced) };
      room_then = record { local = omega (arith, local.spare_then, kept.room_then.local); synced = omega (arith, synced.spare, past, kept.room_then.synced) };
      laid = subst (All (AreLaid m.laid t.laid)) (sym none) (All-nil (AreLaid m.laid t.laid));
      laid_then = λ k f within.
          let g = get_or fs.settled k f in
          let old : g.op.number < c.next_op = omega (arith, below k f within, kept.later) in
          are_laid l.laid_then m.laid_then s.laid_then t.laid_then g (over.before_then g.op.number old) (beyond.before_then g.op.number old) (kept.laid_then k f within);
      local_untaken = λ i above. over.fresh i (kept.local_untaken i above);
      synced_untaken = λ i above. beyond.fresh i (kept.synced_untaken i above);
      count = kept.count;
      count_then = kept.count_then;
    }

keeps_tree : (s t : UndoState) → Keeps s t → KeepsTree s t
keeps_tree s t keeps = record { now = keeps.now; past = keeps.past; spare = keeps.spare }

pub same_tree : (s : UndoState) → KeepsTree s s
same_tree s = record { now = refl; past = refl; spare = omega arith }

-- room was made
pub kept_reserved : (r : RemoteStates) (l m : LocalStates) (s t : UndoState) (fs : FlightsState) (c d : Counts) → fs.now ≡ []
    → KeepsLocal l m → m.laid ≡ l.laid → m.laid_then ≡ l.laid_then → Keeps s t → IsKept r l s fs c d → IsKept r m t fs c d
kept_reserved r l m s t fs c d none local laid laid_then synced kept =
    kept_laid r l m s t fs c d none local (same_beyond c.next_op l.laid l.laid_then m.laid m.laid_then laid laid_then)
    (keeps_tree s t synced) (same_beyond c.next_op s.laid s.laid_then t.laid t.laid_then synced.laid synced.laid_then) kept

-- what the same lies under now and then may be laid by under
pub fresh_numbered : (laid laid_then new new_then : Laid) (next : ℕ) (remote : RemoteState) (ops : List Op) → AreUntaken laid laid_then next → new ≡ laid → new_then ≡ laid_then
    → All (IsFresh new new_then) (numbered next remote ops)
fresh_numbered laid laid_then new new_then next remote ops untaken same then =
    All-weaker (λ op. next ≤ op.number) (IsFresh new new_then)
    (λ op from. ap (λ m. get m op.number) same ∙ untaken op.number from ∙ sym (ap (λ m. get m op.number) then)) (numbered next remote ops) (numbers_from next remote ops)

pub summed : (o : Option ℕ) (P : Type 0) (v w : ℕ) → SomeIff o P v → o ≡ Some w → P × (w ≡ v)
summed None P v w iff is = cc
summed (Some x) P v w (holds, value) is = let same : x ≡ w = cc in (holds, sym same ∙ value)

-- OPERATIONS FLY, with all that they need
pub record ReadyToFly (l : LocalStates) (s : UndoState) (changes next : ℕ) (remote : RemoteState) (ops : List Op) : Type 0 where
  pub may : All MayFly ops
  pub local : 2 * length ops ≤ l.spare
  pub synced : length ops ≤ s.spare
  pub local_laid : All (λ op. IsLaid l.laid op.number op.local) (numbered next remote ops)
  pub synced_laid : All (λ op. IsLaid s.laid op.number op.synced) (numbered next remote ops)
  pub count : changes + length ops < 18446744073709551616

pub fits_numbered : (n : ℕ) (remote : RemoteState) (ops : List Op) → All MayFly ops → All FitsOp (numbered n remote ops)
fits_numbered n remote ops may = all_numbered FitsOp n remote ops (λ op number base fits. record { remote = fits.remote; local = fits.local; synced = fits.synced })
    (All-weaker MayFly FitsOp (λ op may. may.fits) ops may)

pub may_numbered : (n : ℕ) (remote : RemoteState) (ops : List Op) → All MayFly ops → All MayFly (numbered n remote ops)
may_numbered n remote ops may = all_numbered MayFly n remote ops
    (λ op number base may. record { id = may.id; other = may.other; fits = record { remote = may.fits.remote; local = may.fits.local; synced = may.fits.synced } }) may

pub kept_flying : (r : RemoteStates) (l : LocalStates) (s : UndoState) (fs : FlightsState) (c d : Counts) (ops : List Op) (b : Counts)
    → b.changes ≡ c.changes → b.next_op ≡ c.next_op + length ops → ReadyToFly l s c.changes c.next_op r.now ops
    → IsKept r l s fs c d → IsKept r l s (record { now = map as_planned (numbered c.next_op r.now ops); settled = fs.settled }) b d
kept_flying r l s fs c d ops b changes next ready kept =
    let numbers = numbered c.next_op r.now ops in
    let size = length-map numbers as_planned ∙ length_numbered c.next_op r.now ops in
    record {
      now = record {
        remote = kept.now.remote;
        local = kept.now.local;
        synced = kept.now.synced;
        flights = All-map (IsFlight (known_to r.now)) as_planned numbers
            (All-weaker MayFly (λ op. IsFlight (known_to r.now) (as_planned op)) (λ op may. record { op = may; stage = tt }) numbers (may_numbered c.next_op r.now ops ready.may));
        numbers = planned_numbers c.next_op r.now ops b.next_op (omega (arith, next));
      };
      settled = kept.settled;
      later = omega (arith, kept.later, next);
      room = record { local = omega (arith, size, ready.local); synced = omega (arith, size, ready.synced) };
      room_then = kept.room_then;
      laid = All-map (AreLaid l.laid s.laid) as_planned numbers (λ k op within. record { local = ready.local_laid k op within; synced = ready.synced_laid k op within });
      laid_then = kept.laid_then;
      local_untaken = λ i above. kept.local_untaken i (omega (arith, above, next));
      synced_untaken = λ i above. kept.synced_untaken i (omega (arith, above, next));
      count = omega (arith, size, changes, ready.count);
      count_then = kept.count_then;
    }

-- AN OPERATION TAKES PLACE AT ONCE, while nothing is in flight
pub one_beyond : (n next : ℕ) (laid laid_then new new_then : Laid) → n ≡ next → LaidOne n laid laid_then new new_then → LaidBeyond next laid laid_then new new_then
one_beyond n next laid laid_then new new_then is one = record {
  before_then = λ k below. one.others_then k (λ same. absurd (omega (arith, below, same, is)));
  fresh = λ k fresh. elim (same_or_not k n) [
    | inl same ↦ subst (λ i. get new i ≡ get new_then i) (sym same) one.fresh
    | inr apart ↦ one.others k apart ∙ fresh ∙ sym (one.others_then k apart)
  ];
}

-- what it leaves of a part: what the part leads back to, and what is laid by under other numbers
pub record LeavesLocal (n : ℕ) (s t : LocalStates) : Type 0 where
  pub settled : t.settled ≡ s.settled
  pub laid_then : t.laid_then ≡ s.laid_then
  pub spare_then : s.spare_then ≤ t.spare_then
  pub laid : (i : ℕ) → i ≢ n → get t.laid i ≡ get s.laid i

pub record LeavesSynced (n : ℕ) (s t : UndoState) : Type 0 where
  pub settled : settled_of t ≡ settled_of s
  pub laid_then : t.laid_then ≡ s.laid_then
  pub spare_then : s.spare + length s.past ≤ t.spare + length t.past
  pub laid : (i : ℕ) → i ≢ n → get t.laid i ≡ get s.laid i

pub kept_at_once : (r : RemoteStates) (l m : LocalStates) (s t : UndoState) (fs : FlightsState) (c b d : Counts) → fs.now ≡ []
    → LeavesLocal c.next_op l m → LeavesSynced c.next_op s t → IsLocal m.now → WellFormed t.now → b.next_op ≡ c.next_op + 1 → b.changes < 18446744073709551616
    → IsKept r l s fs c d → IsKept r m t fs b d
kept_at_once r l m s t fs c b d none one two local synced next few kept =
    let size : length fs.now ≡ 0 = ap (λ (gs : List Flight). length gs) none in
    record {
      now = record {
        remote = kept.now.remote;
        local = local;
        synced = synced;
        flights = kept.now.flights;
        numbers = subst (λ gs. AreNumbered gs b.next_op) (sym none) tt;
      };
      settled = subst IsClient (same_then r.settled r.settled l.settled m.settled (settled_of s) (settled_of t) fs.settled d refl one.settled two.settled) kept.settled;
      later = omega (arith, next, kept.later);
      room = record { local = omega (arith, size); synced = omega (arith, size) };
      room_then = record { local = omega (arith, one.spare_then, kept.room_then.local); synced = omega (arith, two.spare_then, kept.room_then.synced) };
      laid = subst (All (AreLaid m.laid t.laid)) (sym none) (All-nil (AreLaid m.laid t.laid));
      laid_then = subst (λ laid. All (AreLaid laid t.laid_then) fs.settled) (sym one.laid_then) (subst (λ laid. All (AreLaid l.laid_then laid) fs.settled) (sym two.laid_then) kept.laid_then);
      local_untaken = λ i above. one.laid i (λ is. absurd (omega (arith, is, above, next))) ∙ kept.local_untaken i (omega (arith, above, next)) ∙ sym (ap (λ laid. get laid i) one.laid_then);
      synced_untaken = λ i above. two.laid i (λ is. absurd (omega (arith, is, above, next))) ∙ kept.synced_untaken i (omega (arith, above, next)) ∙ sym (ap (λ laid. get laid i) two.laid_then);
      count = omega (arith, size, few);
      count_then = kept.count_then;
    }
