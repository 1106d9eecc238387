-- The order in which operations end makes no difference.
use Rattle.std.specs.Prelude.{All, Contains, IsPermutation}
use Rattle.std.specs.List.{flat_map}
use Rattle.std.proofs.Common.{◌≡◌, ◌≢◌, ◌⊎◌, ◌++◌, ◌==◌, ℕ, zero, suc, true, false, cond, List, [], ◌∷◌, Option, None, Some, refl, sym, ◌∙◌, ap, subst, inl, inr, arith}
use Rattle.std.proofs.lemmas.Bool.{eq-eqb, eqb-true, ne_eqb}
use Rattle.std.proofs.lemmas.Bool.Decides.{Decides-eqb, eqb_tells}
use Rattle.std.proofs.lemmas.Map.Keys.{IsDistinct-IsPermutation}
use Rattle.std.proofs.lemmas.Map.Made.{AllPairs-from_IsDistinct, IsDistinct-from_AllPairs}
use Rattle.std.proofs.lemmas.List.{append-nil, append_assoc}
use Rattle.std.proofs.lemmas.List.Elements.{All-cons, All-contains, All-head, All-nil, All-tail}
use Rattle.std.proofs.lemmas.List.Kept.{AllPairs-cons}
use Rattle.std.proofs.lemmas.List.Sorted.{Contains-permutation, IsPermutation-append_comm, IsPermutation-append_left, IsPermutation-append_right, IsPermutation-refl, IsPermutation-sym, IsPermutation-trans}
use Rattle.nuc_class.specs.declared.op.Op.{Op}
use Rattle.nuc_edits.specs.Edits.{Recorded}
use Rattle.nuc_edits.specs.declared.edit.Adoption.{Adoption}
use Rattle.nuc_edits.specs.declared.edit.Edit.{Edit}
use Rattle.nuc_flights.specs.Flights.{Flight, Stage, flight_of, planned, started, taken, without}
use Rattle.nuc_flights.specs.declared.taken.Taken.{Taken}
use Rattle.nuc_flights.specs.declared.taken.Taken.TheVariants as came
use Rattle.nuc_folder.specs.declared.outcome.Outcome.{Outcome}
use Rattle.nuc_step.specs.Client.{ClientState}
use Rattle.nuc_step.specs.Order.{AreDone, AreSeparate, IsReady, KeyStands, MayLand, NoneAgain, OneClientInEveryOrder, SameRecorded}
use Rattle.nuc_step.specs.Sound.{IsClient}
use Rattle.nuc_step.specs.Steps.{CanLand, Ends, EndsAt, EndsOf, adoptions_of, finished, reason_of}
use Rattle.nuc_step.specs.declared.reason.Reason.{Reason}
use Rattle.nuc_step.specs.declared.reply.DoneReply.{DoneReply}
use Rattle.nuc_step.specs.declared.reply.DoneReply.TheVariants as done
use Rattle.nuc_step.proofs.Flying.{flight_in}
use Rattle.nuc_step.proofs.Ready.{can_land_as, done_leaves, ended, ended_as, ended_at, recorded, recorded_as, recorded_at}
use Rattle.nuc_step.proofs.StaysReady.{flights_ended, others_of, pairs_head, pairs_tail, ready_ended, separate-sym}
use Rattle.nuc_step.proofs.Steady.{steps_keep}
use Rattle.nuc_step.proofs.Swaps.{ended_swap}

-- ONE DONE of a ready client, as a function
abbrev step : ℕ → ClientState → ClientState
step n c = ended n (flight_of n c.flights) c

-- there is a Done that leads there
module _ (n : ℕ) (c : ClientState) (e : Recorded) where
  taken_ends : (op : Op) (t : Taken) (why : Option Reason) → (why ≡ None → CanLand (finished n t c) op t)
      → (r : DoneReply) × Ends n op t why c e r (ended_as op t why n c) (recorded_as op t why e)
  taken_ends op t None can = (done.Applied, (can refl, refl, refl))
  taken_ends op t (Some why) can = (done.Dropped why, (refl, refl, refl))

  ends_at : (op : Op) (st : Stage) → CanLand c op (came.Folder Outcome.Ok) → KeyStands c.local.keys st
      → (r : DoneReply) × EndsAt n op st c e r (ended_at op st n c) (recorded_at op st e)
  ends_at op planned may key = (done.NoSuchOp, (refl, refl))
  ends_at op started may key = (done.NoSuchOp, (refl, refl))
  ends_at op (taken t) may key = taken_ends op t (reason_of t) (λ why. can_land_as n c op t why may key)

  ends_of : (o : Option Flight) → ((f : Flight) → o ≡ Some f → MayLand c f × KeyStands c.local.keys f.stage)
      → (r : DoneReply) × EndsOf n o c e r (ended n o c) (recorded o e)
  ends_of None may = (done.NoSuchOp, (refl, refl))
  ends_of (Some f) may = let both = may f refl in ends_at f.op f.stage both.0 both.1

nobody : Recorded
nobody = record { edits = []; adoptions = [] }

step_client : (n : ℕ) (c : ClientState) → IsClient c → IsReady c → IsClient (step n c)
step_client n c is ready =
    let ends = ends_of n c nobody (flight_of n c.flights)
    (λ f there. (flight_in (MayLand c) n c.flights f there ready.each, flight_in (λ g. KeyStands c.local.keys g.stage) n c.flights f there ready.keys)) in
    (steps_keep c is).done n (step n c) nobody (recorded (flight_of n c.flights) nobody) ends.0 ends.1

step_ready : (n : ℕ) (c : ClientState) → IsClient c → IsReady c → IsReady (step n c)
step_ready n c is ready = ready_ended c is ready n

-- WHAT ELSE IS IN FLIGHT stays there
others_fly : (n m : ℕ) (fs : List Flight) → n ≢ m → flight_of n (without m fs) ≡ flight_of n fs
others_fly n m [] apart = refl
others_fly n m (f ∷ fs) apart = elim (f.op.number == m) as (λ b. (f.op.number == m) ≡ b → flight_of n (cond b fs (f ∷ without m fs)) ≡ cond (f.op.number == n) (Some f) (flight_of n fs)) [
  | true ↦ λ hit. elim (f.op.number == n) as (λ b. (f.op.number == n) ≡ b → flight_of n fs ≡ cond b (Some f) (flight_of n fs)) [
    | true ↦ λ too. absurd (apart (sym (eqb-true f.op.number n too) ∙ eqb-true f.op.number m hit))
    | false ↦ λ _. refl
  ] refl
  | false ↦ λ _. ap (λ o. cond (f.op.number == n) (Some f) o) (others_fly n m fs apart)
] refl

fly_at : (op : Op) (st : Stage) (n m : ℕ) (c : ClientState) → n ≢ m → flight_of n (ended_at op st m c).flights ≡ flight_of n c.flights
fly_at op planned n m c apart = refl
fly_at op started n m c apart = refl
fly_at op (taken t) n m c apart = ap (flight_of n) (flights_ended op t (reason_of t) m c) ∙ others_fly n m c.flights apart

fly_of : (o : Option Flight) (n m : ℕ) (c : ClientState) → n ≢ m → flight_of n (ended m o c).flights ≡ flight_of n c.flights
fly_of None n m c apart = refl
fly_of (Some f) n m c apart = fly_at f.op f.stage n m c apart

still_flies : (n m : ℕ) (c : ClientState) → n ≢ m → flight_of n (step m c).flights ≡ flight_of n c.flights
still_flies n m c apart = fly_of (flight_of m c.flights) n m c apart

-- TWO DONES in either order
two_of : (n m : ℕ) (c : ClientState) (o p : Option Flight) → n ≢ m → ((f g : Flight) → o ≡ Some f → p ≡ Some g → AreSeparate c f g)
    → ended n o (ended m p c) ≡ ended m p (ended n o c)
two_of n m c None p apart separate = refl
two_of n m c (Some f) None apart separate = refl
two_of n m c (Some f) (Some g) apart separate =
    let both = separate f g refl refl in ended_swap f.op g.op f.stage g.stage n m c both.one both.other_one apart both.ids

two_separate : (n m : ℕ) (c : ClientState) → IsReady c → n ≢ m → (f g : Flight) → flight_of n c.flights ≡ Some f → flight_of m c.flights ≡ Some g → AreSeparate c f g
two_separate n m c ready apart f g first second =
    flight_in (AreSeparate c f) m (without n c.flights) g (others_fly m n c.flights (λ e. apart (sym e)) ∙ second)
    (others_of (AreSeparate c) (separate-sym c) n c.flights f ready.pairs first)

step_swap : (n m : ℕ) (c : ClientState) → IsReady c → n ≢ m → step n (step m c) ≡ step m (step n c)
step_swap n m c ready apart =
    ap (λ o. ended n o (step m c)) (still_flies n m c apart)
    ∙ two_of n m c (flight_of n c.flights) (flight_of m c.flights) apart (two_separate n m c ready apart)
    ∙ sym (ap (λ o. ended m o (step n c)) (still_flies m n c (λ e. apart (sym e))))

-- A LIST OF DONES
abbrev steps : List ℕ → ClientState → ClientState
steps [] c = c
steps (n ∷ ns) c = steps ns (step n c)

abbrev records : List ℕ → ClientState → Recorded → Recorded
records [] c e = e
records (n ∷ ns) c e = records ns (step n c) (recorded (flight_of n c.flights) e)

are_steps : (ns : List ℕ) (c d : ClientState) (e g : Recorded) → IsClient c → IsReady c → AreDone ns c e d g → (d ≡ steps ns c) × (g ≡ records ns c e)
are_steps [] c d e g is ready ends = ends
are_steps (n ∷ ns) c d e g is ready (r, b, h, one, rest) =
    let leaves = done_leaves n c b e h r ready one in
    let then = subst (λ (t : Recorded). AreDone ns (step n c) t d g) leaves.1 (subst (λ (t : ClientState). AreDone ns t h d g) leaves.0 rest) in
    are_steps ns (step n c) d (recorded (flight_of n c.flights) e) g (step_client n c is ready) (step_ready n c is ready) then

-- one that isn't among those before it may come first
first_too : (n : ℕ) (before after : List ℕ) (c : ClientState) → IsClient c → IsReady c → All (λ a. a ≢ n) before
    → steps (before ++ n ∷ after) c ≡ steps (n ∷ before ++ after) c
first_too n [] after c is ready apart = refl
first_too n (a ∷ before) after c is ready apart =
    first_too n before after (step a c) (step_client a c is ready) (step_ready a c is ready) (All-tail (λ a. a ≢ n) a before apart)
    ∙ ap (steps (before ++ after)) (step_swap n a c ready (λ e. All-head (λ a. a ≢ n) a before apart (sym e)))

-- ONE IS PICKED of a list in which none comes twice: those before it and those after it
record Picked (n : ℕ) (ms : List ℕ) : Type 0 where
  before : List ℕ
  after : List ℕ
  whole : ms ≡ before ++ n ∷ after
  first : All (λ a. a ≢ n) before
  apart : All (λ a. n ≢ a) (before ++ after)
  none_again : NoneAgain (before ++ after)

-- what holds of all holds of those beside one
All-middle : (P : ℕ → Type 0) (before : List ℕ) (n : ℕ) (after : List ℕ) → All P (before ++ n ∷ after) → All P (before ++ after)
All-middle P [] n after all = All-tail P n after all
All-middle P (m ∷ before) n after all =
    All-cons P m (before ++ after) (All-head P m (before ++ n ∷ after) all) (All-middle P before n after (All-tail P m (before ++ n ∷ after) all))

picked_later : (n m : ℕ) (ms : List ℕ) → NoneAgain (m ∷ ms) → Contains ms n → Picked n ms → Picked n (m ∷ ms)
picked_later n m ms none there p =
    let others : All (λ a. m ≢ a) ms = pairs_head (λ a b. a ≢ b) m ms none in
    let other : m ≢ n = All-contains (λ a. m ≢ a) ms n others there in
    let rest : All (λ a. m ≢ a) (p.before ++ p.after) = All-middle (λ a. m ≢ a) p.before n p.after (subst (All (λ a. m ≢ a)) p.whole others) in
    record {
      before = m ∷ p.before;
      after = p.after;
      whole = ap (λ l. m ∷ l) p.whole;
      first = All-cons (λ a. a ≢ n) m p.before other p.first;
      apart = All-cons (λ a. n ≢ a) m (p.before ++ p.after) (λ e. other (sym e)) p.apart;
      none_again = AllPairs-cons (λ a b. a ≢ b) m (p.before ++ p.after) rest p.none_again;
    }

pick : (n : ℕ) (ms : List ℕ) → NoneAgain ms → Contains ms n → Picked n ms
pick n [] none (k, below, at) = absurd (omega (arith, below))
pick n (m ∷ ms) none (zero, below, at) = record {
  before = [];
  after = ms;
  whole = ap (λ q. q ∷ ms) at;
  first = All-nil (λ a. a ≢ n);
  apart = subst (λ q. All (λ a. q ≢ a) ms) at (pairs_head (λ a b. a ≢ b) m ms none);
  none_again = pairs_tail (λ a b. a ≢ b) m ms none;
}
pick n (m ∷ ms) none (suc k, below, at) =
    let there : Contains ms n = (k, omega (arith, below), at) in
    picked_later n m ms none there (pick n ms (pairs_tail (λ a b. a ≢ b) m ms none) there)

-- the same numbers, in whatever order
record SameNumbers (ns ms : List ℕ) : Type 0 where
  there : (x : ℕ) → Contains ns x → Contains ms x
  back : (x : ℕ) → Contains ms x → Contains ns x

contains_first : (n : ℕ) (ns : List ℕ) → Contains (n ∷ ns) n
contains_first n ns = (0, omega arith, refl)

contains_later : (n : ℕ) (ns : List ℕ) (x : ℕ) → Contains ns x → Contains (n ∷ ns) x
contains_later n ns x (k, below, at) = (suc k, omega (arith, below), at)

contains_cases : (n : ℕ) (ns : List ℕ) (x : ℕ) → Contains (n ∷ ns) x → (n ≡ x) ⊎ Contains ns x
contains_cases n ns x (zero, below, at) = inl at
contains_cases n ns x (suc k, below, at) = inr (k, omega (arith, below), at)

in_middle : (before : List ℕ) (n : ℕ) (after : List ℕ) (x : ℕ) → Contains (before ++ after) x → Contains (before ++ n ∷ after) x
in_middle [] n after x there = contains_later n after x there
in_middle (m ∷ before) n after x there = elim (contains_cases m (before ++ after) x there) [
  | inl same ↦ subst (Contains (m ∷ before ++ n ∷ after)) same (contains_first m (before ++ n ∷ after))
  | inr later ↦ contains_later m (before ++ n ∷ after) x (in_middle before n after x later)
]

out_of_middle : (before : List ℕ) (n : ℕ) (after : List ℕ) (x : ℕ) → n ≢ x → Contains (before ++ n ∷ after) x → Contains (before ++ after) x
out_of_middle [] n after x apart there = elim (contains_cases n after x there) [ inl same ↦ absurd (apart same) | inr later ↦ later ]
out_of_middle (m ∷ before) n after x apart there = elim (contains_cases m (before ++ n ∷ after) x there) [
  | inl same ↦ subst (Contains (m ∷ before ++ after)) same (contains_first m (before ++ after))
  | inr later ↦ contains_later m (before ++ after) x (out_of_middle before n after x apart later)
]

same_rest : (n : ℕ) (ns ms : List ℕ) → NoneAgain (n ∷ ns) → SameNumbers (n ∷ ns) ms → (p : Picked n ms) → SameNumbers ns (p.before ++ p.after)
same_rest n ns ms none same p = record {
  there = λ x its.
      let apart : n ≢ x = All-contains (λ a. n ≢ a) ns x (pairs_head (λ a b. a ≢ b) n ns none) its in
      out_of_middle p.before n p.after x apart (subst (λ l. Contains l x) p.whole (same.there x (contains_later n ns x its)));
  back = λ x its.
      let apart : n ≢ x = All-contains (λ a. n ≢ a) (p.before ++ p.after) x p.apart its in
      elim (contains_cases n ns x (same.back x (subst (λ l. Contains l x) (sym p.whole) (in_middle p.before n p.after x its)))) [
        | inl is ↦ absurd (apart is)
        | inr later ↦ later
      ];
}

none_contained : (x : ℕ) → Contains [] x → ⊥
none_contained x (k, below, at) = omega (arith, below)

-- IN EVERY ORDER one client
one_client : (ns ms : List ℕ) (c : ClientState) → IsClient c → IsReady c → NoneAgain ns → NoneAgain ms → SameNumbers ns ms → steps ns c ≡ steps ms c
one_client [] [] c is ready none none_too same = refl
one_client [] (m ∷ ms) c is ready none none_too same = absurd (none_contained m (same.back m (contains_first m ms)))
one_client (n ∷ ns) ms c is ready none none_too same =
    let p = pick n ms none_too (same.there n (contains_first n ns)) in
    one_client ns (p.before ++ p.after) (step n c) (step_client n c is ready) (step_ready n c is ready) (pairs_tail (λ a b. a ≢ b) n ns none) p.none_again
    (same_rest n ns ms none same p)
    ∙ sym (first_too n p.before p.after c is ready p.first) ∙ ap (λ l. steps l c) (sym p.whole)

-- WHAT IS RECORDED: the adoptions of each
abbrev adopted_as : Op → Taken → Option Reason → List Edit → List Adoption
adopted_as op t None edits = adoptions_of op t (record { edits = edits; adoptions = [] })
adopted_as op t (Some why) edits = []

abbrev adopted_at : Op → Stage → List Edit → List Adoption
adopted_at op planned edits = []
adopted_at op started edits = []
adopted_at op (taken t) edits = adopted_as op t (reason_of t) edits

abbrev adopted_of : List Edit → Option Flight → List Adoption
adopted_of edits None = []
adopted_of edits (Some f) = adopted_at f.op f.stage edits

abbrev with_adopted : List Adoption → Recorded → Recorded
with_adopted more e = record { edits = e.edits; adoptions = e.adoptions ++ more }

abbrev as_recorded : List Edit → List Adoption → Recorded
as_recorded edits adoptions = record { edits = edits; adoptions = adoptions }

none_adopted : (e : Recorded) → e ≡ with_adopted [] e
none_adopted e = ap (λ (l : List Adoption). as_recorded e.edits l) (sym (append-nil e.adoptions))

same_adopted : (op : Op) (t : Taken) (e : Recorded) → adoptions_of op t e ≡ adoptions_of op t (record { edits = e.edits; adoptions = [] })
same_adopted op (came.Folder o) e = refl
same_adopted op (came.Accepted rev) e = refl
same_adopted op (came.Refused why) e = refl

recorded_is_as : (op : Op) (t : Taken) (why : Option Reason) (e : Recorded) → recorded_as op t why e ≡ with_adopted (adopted_as op t why e.edits) e
recorded_is_as op t None e = ap (λ more. with_adopted more e) (same_adopted op t e)
recorded_is_as op t (Some why) e = none_adopted e

recorded_is_at : (op : Op) (st : Stage) (e : Recorded) → recorded_at op st e ≡ with_adopted (adopted_at op st e.edits) e
recorded_is_at op planned e = none_adopted e
recorded_is_at op started e = none_adopted e
recorded_is_at op (taken t) e = recorded_is_as op t (reason_of t) e

recorded_is : (o : Option Flight) (e : Recorded) → recorded o e ≡ with_adopted (adopted_of e.edits o) e
recorded_is None e = none_adopted e
recorded_is (Some f) e = recorded_is_at f.op f.stage e

-- those of a list of Dones
abbrev adopted_by_all : List Edit → List Flight → List ℕ → List Adoption
adopted_by_all edits fs ns = flat_map (λ n. adopted_of edits (flight_of n fs)) ns

same_flights : (edits : List Edit) (ns : List ℕ) (fs gs : List Flight) → All (λ m. flight_of m gs ≡ flight_of m fs) ns → adopted_by_all edits gs ns ≡ adopted_by_all edits fs ns
same_flights edits [] fs gs same = refl
same_flights edits (n ∷ ns) fs gs same =
    ap (λ o. adopted_of edits o ++ adopted_by_all edits gs ns) (All-head (λ m. flight_of m gs ≡ flight_of m fs) n ns same)
    ∙ ap (λ l. adopted_of edits (flight_of n fs) ++ l) (same_flights edits ns fs gs (All-tail (λ m. flight_of m gs ≡ flight_of m fs) n ns same))

adds : (edits : List Edit) (old more rest : List Adoption) → ◌≡◌ {A = Recorded} (with_adopted rest (record { edits = edits; adoptions = old ++ more })) (record { edits = edits; adoptions = old ++ (more ++ rest) })
adds edits old more rest = ap (λ (l : List Adoption). as_recorded edits l) (append_assoc old more rest)

records_are : (ns : List ℕ) (c : ClientState) (e : Recorded) → NoneAgain ns → records ns c e ≡ with_adopted (adopted_by_all e.edits c.flights ns) e
records_are [] c e none = none_adopted e
records_are (n ∷ ns) c e none =
    let more = adopted_of e.edits (flight_of n c.flights) in
    let apart : All (λ m. n ≢ m) ns = pairs_head (λ a b. a ≢ b) n ns none in
    let fly : All (λ m. flight_of m (step n c).flights ≡ flight_of m c.flights) ns = λ k d below. still_flies _ n c (λ e. apart k d below (sym e)) in
    ap (records ns (step n c)) (recorded_is (flight_of n c.flights) e)
    ∙ records_are ns (step n c) (with_adopted more e) (pairs_tail (λ a b. a ≢ b) n ns none)
    ∙ ap (λ l. with_adopted l (with_adopted more e)) (same_flights e.edits ns c.flights (step n c).flights fly)
    ∙ adds e.edits e.adoptions more (adopted_by_all e.edits c.flights ns)

-- the lists of a list's elements, where one is moved to the front
module _ (f : ℕ → List Adoption) where
  moved : (before : List ℕ) (n : ℕ) (after : List ℕ) → IsPermutation (flat_map f (n ∷ before ++ after)) (flat_map f (before ++ n ∷ after))
  moved [] n after = IsPermutation-refl (flat_map f (n ∷ after))
  moved (m ∷ before) n after =
      let rest = flat_map f (before ++ after) in
      IsPermutation-trans (f n ++ (f m ++ rest)) (f m ++ (f n ++ rest)) (f m ++ flat_map f (before ++ n ∷ after))
      (subst (λ l. IsPermutation l (f m ++ (f n ++ rest))) (append_assoc (f n) (f m) rest)
      (subst (λ l. IsPermutation ((f n ++ f m) ++ rest) l) (append_assoc (f m) (f n) rest)
      (IsPermutation-append_left rest (f n ++ f m) (f m ++ f n) (IsPermutation-append_comm (f n) (f m)))))
      (IsPermutation-append_right (f m) (f n ++ rest) (flat_map f (before ++ n ∷ after)) (moved before n after))

  gathered : (ns ms : List ℕ) → NoneAgain ns → NoneAgain ms → SameNumbers ns ms → IsPermutation (flat_map f ns) (flat_map f ms)
  gathered [] [] none none_too same = IsPermutation-refl []
  gathered [] (m ∷ ms) none none_too same = absurd (none_contained m (same.back m (contains_first m ms)))
  gathered (n ∷ ns) ms none none_too same =
      let p = pick n ms none_too (same.there n (contains_first n ns)) in
      let rest = gathered ns (p.before ++ p.after) (pairs_tail (λ a b. a ≢ b) n ns none) p.none_again (same_rest n ns ms none same p) in
      subst (λ l. IsPermutation (flat_map f (n ∷ ns)) (flat_map f l)) (sym p.whole)
      (IsPermutation-trans (f n ++ flat_map f ns) (f n ++ flat_map f (p.before ++ p.after)) (flat_map f (p.before ++ n ∷ p.after))
      (IsPermutation-append_right (f n) (flat_map f ns) (flat_map f (p.before ++ p.after)) rest) (moved p.before n p.after))

same_recorded : (e f g : Recorded) (some others : List Adoption) → f ≡ with_adopted some e → g ≡ with_adopted others e → IsPermutation some others → SameRecorded f g
same_recorded e f g some others is is_too order =
    subst (λ (r : Recorded). SameRecorded r g) (sym is) (subst (SameRecorded (with_adopted some e)) (sym is_too)
    (record { edits = refl; adoptions = IsPermutation-append_right e.adoptions some others order }))

eqb-sym : (x y : ℕ) → (x == y) ≡ (y == x)
eqb-sym x y = elim (eqb_tells x y) [ inl (t, same) ↦ t ∙ sym (eq-eqb y x (sym same)) | inr (t, apart) ↦ t ∙ sym (ne_eqb y x (λ e. apart (sym e))) ]

none_again_shuffled : (ns ms : List ℕ) → IsPermutation ns ms → NoneAgain ns → NoneAgain ms
none_again_shuffled ns ms order none =
    AllPairs-from_IsDistinct Decides-eqb ms (IsDistinct-IsPermutation ◌==◌ eqb-sym ns ms order (IsDistinct-from_AllPairs Decides-eqb ns none))

pub one_client_in_every_order : OneClientInEveryOrder
one_client_in_every_order c d b e f g ns ms is ready none order first second =
    let none_too = none_again_shuffled ns ms order none in
    let same : SameNumbers ns ms = record {
      there = λ x its. Contains-permutation ns ms x order its;
      back = λ x its. Contains-permutation ms ns x (IsPermutation-sym ns ms order) its;
    } in
    let one = are_steps ns c d e f is ready first in
    let two = are_steps ms c b e g is ready second in (
      one.0 ∙ one_client ns ms c is ready none none_too same ∙ sym two.0,
      same_recorded e f g (adopted_by_all e.edits c.flights ns) (adopted_by_all e.edits c.flights ms) (one.1 ∙ records_are ns c e none) (two.1 ∙ records_are ms c e none_too)
          (gathered (λ n. adopted_of e.edits (flight_of n c.flights)) ns ms none none_too same),
    )
