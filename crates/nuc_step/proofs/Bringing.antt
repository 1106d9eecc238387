-- The steps of a client bring nothing but what comes with them.
use Rattle.std.specs.Prelude.{Any}
use Rattle.std.proofs.Common.{◌≡◌, ◌⊎◌, ◌+◌, ◌++◌, ◌==◌, ℕ, zero, suc, Bool, true, false, cond, List, [], ◌∷◌, length, map, take, drop, Option, None, Some, refl, sym, ◌∙◌, ap, subst, inl, inr, arith}
use Rattle.std.specs.FinMap.{get, insert, remove}
use Rattle.nuc_base.specs.Changes.{changed}
use Rattle.nuc_base.specs.Ready.{all_changed}
use Rattle.nuc_base.specs.Trees.{Nodes}
use Rattle.nuc_base.specs.declared.change.Change.{Change}
use Rattle.nuc_base.specs.declared.change.Change.TheVariants.{Keep, Put, Cut}
use Rattle.nuc_base.specs.declared.node.Kind.{Kind}
use Rattle.nuc_base.specs.declared.node.Node.{Node}
use Rattle.nuc_base.proofs.Maps.{get_cut_other, get_cut_same, get_put_other, get_put_same, same_or_not}
use Rattle.nuc_class.specs.declared.op.Op.{Op}
use Rattle.nuc_flights.specs.Flights.{Flight, Stage, as_planned, flight_of, staged, started, taken, without}
use Rattle.nuc_flights.specs.declared.taken.Taken.{Taken}
use Rattle.nuc_flights.specs.declared.taken.Taken.TheVariants as came
use Rattle.nuc_journal.specs.Entries.{tree_after, with_value}
use Rattle.nuc_journal.specs.declared.entry.Entry.{Entry}
use Rattle.nuc_replica.specs.Remote.{RemoteState, heard, with_entries}
use Rattle.nuc_step.specs.Client.{ClientState}
use Rattle.nuc_step.specs.Holdings.{EntryBrings, Holds, IsOf, OpHolds, Puts, StepsBringNothingElse, local_id}
use Rattle.nuc_step.specs.Holdings.Holds.{remote as in_remote, local as in_local, synced as in_synced, ahead as in_ahead, flight as in_flight}
use Rattle.nuc_step.specs.Holdings.OpHolds.{remote as puts_remote, local as puts_local, synced as puts_synced, old_local as was_local, old_synced as was_synced}
use Rattle.nuc_step.specs.Steps.{after_fly, after_pull, after_restart, after_start, after_take, base_of, caught_up_to, finished, is_split, landed, numbered, split_changes}
use Rattle.nuc_step.proofs.Outcomes.{Came, came_of}
use Rattle.nuc_step.proofs.Outcomes.Came.{applied, dropped, nothing}

-- ONE OF A LIST
module _ {X : Type 0} (P : X → Type 0) where
  any_first : (x : X) (xs : List X) → P x → Any P (x ∷ xs)
  any_first x xs its = (0, x, omega arith, refl, its)

  any_later : (x : X) (xs : List X) → Any P xs → Any P (x ∷ xs)
  any_later x xs (k, y, below, at, its) = (suc k, y, omega (arith, below), at, its)

  any_cases : (x : X) (xs : List X) → Any P (x ∷ xs) → P x ⊎ Any P xs
  any_cases x xs (zero, y, below, at, its) = inl (subst P (sym at) its)
  any_cases x xs (suc k, y, below, at, its) = inr (k, y, omega (arith, below), at, its)

  any_none : Any P [] → ⊥
  any_none (k, y, below, at, its) = omega (arith, below)

  any_append : (xs ys : List X) → Any P (xs ++ ys) → Any P xs ⊎ Any P ys
  any_append [] ys any = inr any
  any_append (x ∷ xs) ys any = elim (any_cases x (xs ++ ys) any) [
    | inl first ↦ inl (any_first x xs first)
    | inr later ↦ elim (any_append xs ys later) [ inl of_xs ↦ inl (any_later x xs of_xs) | inr of_ys ↦ inr of_ys ]
  ]

  any_take : (n : ℕ) (xs : List X) → Any P (take n xs) → Any P xs
  any_take zero xs any = absurd (any_none any)
  any_take (suc n) [] any = any
  any_take (suc n) (x ∷ xs) any = elim (any_cases x (take n xs) any) [
    | inl first ↦ any_first x xs first
    | inr later ↦ any_later x xs (any_take n xs later)
  ]

  any_drop : (n : ℕ) (xs : List X) → Any P (drop n xs) → Any P xs
  any_drop zero xs any = any
  any_drop (suc n) [] any = any
  any_drop (suc n) (x ∷ xs) any = any_later x xs (any_drop n xs any)

any_without : (P : Flight → Type 0) (n : ℕ) (fs : List Flight) → Any P (without n fs) → Any P fs
any_without P n [] any = any
any_without P n (f ∷ fs) any = elim (f.op.number == n) as (λ b. Any P (cond b fs (f ∷ without n fs)) → Any P (f ∷ fs)) [
  | true ↦ λ later. any_later P f fs later
  | false ↦ λ some. elim (any_cases P f (without n fs) some) [
    | inl first ↦ any_first P f fs first
    | inr later ↦ any_later P f fs (any_without P n fs later)
  ]
] any

any_staged : (P : Op → Type 0) (n : ℕ) (st : Stage) (fs : List Flight) → Any (λ f. P f.op) (staged n st fs) → Any (λ f. P f.op) fs
any_staged P n st [] any = any
any_staged P n st (f ∷ fs) any = elim (f.op.number == n) as (λ b. Any (λ g. P g.op) (cond b (record f { stage = st } ∷ fs) (f ∷ staged n st fs)) → Any (λ g. P g.op) (f ∷ fs)) [
  | true ↦ λ some. elim (any_cases (λ g. P g.op) (record f { stage = st }) fs some) [
    | inl first ↦ any_first (λ g. P g.op) f fs first
    | inr later ↦ any_later (λ g. P g.op) f fs later
  ]
  | false ↦ λ some. elim (any_cases (λ g. P g.op) f (staged n st fs) some) [
    | inl first ↦ any_first (λ g. P g.op) f fs first
    | inr later ↦ any_later (λ g. P g.op) f fs (any_staged P n st fs later)
  ]
] any

flight_any : (P : Flight → Type 0) (n : ℕ) (fs : List Flight) (f : Flight) → flight_of n fs ≡ Some f → P f → Any P fs
flight_any P n [] f there its = cc
flight_any P n (g ∷ fs) f there its = elim (g.op.number == n) as (λ b. cond b (Some g) (flight_of n fs) ≡ Some f → Any P (g ∷ fs)) [
  | true ↦ λ same. let it : g ≡ f = cc in any_first P g fs (subst P (sym it) its)
  | false ↦ λ later. any_later P g fs (flight_any P n fs f later its)
] there

-- ONE IDENTITY: its node after a change of the tree is the one before, or the one that was put
module _ (x : ℕ) (k : Kind) (v : ℕ) where
  pub of_changed : (m : Nodes) (y : ℕ) (c : Change) → IsOf k v (get (changed m y c) x) → IsOf k v (get m x) ⊎ ((y ≡ x) × Puts k v c)
  of_changed m y Keep is = inl is
  of_changed m y (Put n) is = elim (same_or_not x y) [
    | inl same ↦ inr (sym same, subst (IsOf k v) (ap (get (insert m y n)) same ∙ get_put_same m y n) is)
    | inr other ↦ inl (subst (IsOf k v) (get_put_other m y n x other) is)
  ]
  of_changed m y Cut is = elim (same_or_not x y) [
    | inl same ↦ absurd (subst (IsOf k v) (ap (get (remove m y)) same ∙ get_cut_same m y) is)
    | inr other ↦ inl (subst (IsOf k v) (get_cut_other m y x other) is)
  ]

  of_value : (m : Nodes) (y : ℕ) (value : Option Node) → IsOf k v (get (with_value m y value) x) → IsOf k v (get m x) ⊎ ((y ≡ x) × IsOf k v value)
  of_value m y None is = elim (of_changed m y Cut is) [ inl was ↦ inl was | inr put ↦ absurd put.1 ]
  of_value m y (Some n) is = of_changed m y (Put n) is

  of_entries : (m : Nodes) (es : List Entry) → IsOf k v (get (tree_after m es) x) → IsOf k v (get m x) ⊎ Any (EntryBrings x k v) es
  of_entries m [] is = inl is
  of_entries m (e ∷ es) is = elim (of_entries (with_value m e.id.0 e.value) es is) [
    | inl was ↦ elim (of_value m e.id.0 e.value was) [
      | inl before ↦ inl before
      | inr brought ↦ inr (any_first (EntryBrings x k v) e es brought)
    ]
    | inr later ↦ inr (any_later (EntryBrings x k v) e es later)
  ]

  -- REMOTE
  abbrev OfRemote : RemoteState → Type 0
  OfRemote s = IsOf k v (get s.tree x) ⊎ Any (EntryBrings x k v) s.ahead

  of_with_entries : (s : RemoteState) (es : List Entry) → OfRemote (with_entries s es) → OfRemote s ⊎ Any (EntryBrings x k v) es
  of_with_entries s es (inl is) = elim (of_entries s.tree es is) [ inl was ↦ inl (inl was) | inr brought ↦ inr brought ]
  of_with_entries s es (inr later) = inl (inr (any_drop (EntryBrings x k v) (length es) s.ahead later))

  of_caught_up : (t : Taken) (s : RemoteState) → OfRemote (caught_up_to t s) → OfRemote s
  of_caught_up (came.Folder o) s is = is
  of_caught_up (came.Accepted rev) s is = elim (of_with_entries s (take _ s.ahead) is) [
    | inl was ↦ was
    | inr known ↦ inr (any_take (EntryBrings x k v) _ s.ahead known)
  ]
  of_caught_up (came.Refused why) s is = is

  of_heard : (news : List Entry) (s : RemoteState) → OfRemote (heard news s) → OfRemote s ⊎ Any (EntryBrings x k v) news
  of_heard news s (inl is) = inl (inl is)
  of_heard news s (inr later) = elim (any_append (EntryBrings x k v) s.ahead (drop (length s.ahead) news) later) [
    | inl known ↦ inl (inr known)
    | inr new ↦ inr (any_drop (EntryBrings x k v) (length s.ahead) news new)
  ]

  -- A CLIENT, part by part
  abbrev OfLocal : ClientState → Type 0
  OfLocal c = IsOf k v (get c.local.tree x)

  abbrev OfSynced : ClientState → Type 0
  OfSynced c = IsOf k v (get c.synced x)

  abbrev OfFlights : List Flight → Type 0
  OfFlights fs = Any (λ f. OpHolds x k v f.op) fs

  remote_holds : (c : ClientState) → OfRemote c.remote → Holds c x k v
  remote_holds c (inl is) = in_remote is
  remote_holds c (inr later) = in_ahead later

  -- each part of d comes of c, or of what else came
  holds_of : (c d : ClientState) (E : Type 0) → (OfRemote d.remote → Holds c x k v ⊎ E) → (OfLocal d → Holds c x k v ⊎ E) → (OfSynced d → Holds c x k v ⊎ E)
      → (OfFlights d.flights → Holds c x k v ⊎ E) → Holds d x k v → Holds c x k v ⊎ E
  holds_of c d E remote local synced flights (in_remote is) = remote (inl is)
  holds_of c d E remote local synced flights (in_local is) = local is
  holds_of c d E remote local synced flights (in_synced is) = synced is
  holds_of c d E remote local synced flights (in_ahead later) = remote (inr later)
  holds_of c d E remote local synced flights (in_flight some) = flights some

  only : (c : ClientState) → Holds c x k v ⊎ ⊥ → Holds c x k v
  only c (inl is) = is
  only c (inr none) = absurd none

  -- FLY
  same_place : (split : Bool) (op : Op) (number base : ℕ) → local_id split op ≡ local_id split (record op { number = number; base = base })
  same_place true op number base = refl
  same_place false op number base = refl

  numbered_holds : (op : Op) (number base : ℕ) → OpHolds x k v (record op { number = number; base = base }) → OpHolds x k v op
  numbered_holds op number base (puts_remote at puts) = puts_remote at puts
  numbered_holds op number base (puts_local at puts) = puts_local (same_place (is_split op.verb) op number base ∙ at) puts
  numbered_holds op number base (puts_synced at puts) = puts_synced at puts
  numbered_holds op number base (was_local at is) = was_local at is
  numbered_holds op number base (was_synced at is) = was_synced at is

  of_flown : (n : ℕ) (remote : RemoteState) (ops : List Op) → OfFlights (map as_planned (numbered n remote ops)) → Any (OpHolds x k v) ops
  of_flown n remote [] any = absurd (any_none (λ (f : Flight). OpHolds x k v f.op) any)
  of_flown n remote (op ∷ ops) any =
      elim (any_cases (λ (f : Flight). OpHolds x k v f.op) (as_planned (record op { number = n; base = base_of op.effect remote op.id.0 })) (map as_planned (numbered (n + 1) remote ops)) any) [
        | inl first ↦ any_first (OpHolds x k v) op ops (numbered_holds op n (base_of op.effect remote op.id.0) first)
        | inr later ↦ any_later (OpHolds x k v) op ops (of_flown (n + 1) remote ops later)
      ]

  fly_brings : (c : ClientState) (ops : List Op) → Holds (after_fly ops c) x k v → Holds c x k v ⊎ Any (OpHolds x k v) ops
  fly_brings c ops = holds_of c (after_fly ops c) (Any (OpHolds x k v) ops) (λ is. inl (remote_holds c is)) (λ is. inl (in_local is)) (λ is. inl (in_synced is))
      (λ some. elim (any_append (λ (f : Flight). OpHolds x k v f.op) c.flights (map as_planned (numbered c.next_op c.remote ops)) some) [
        | inl was ↦ inl (in_flight was)
        | inr new ↦ inr (of_flown c.next_op c.remote ops new)
      ])

  -- PULL, START, TAKE, RESTART
  pull_brings : (c : ClientState) (page : List Entry) → Holds (after_pull page c) x k v → Holds c x k v ⊎ Any (EntryBrings x k v) page
  pull_brings c page = holds_of c (after_pull page c) (Any (EntryBrings x k v) page)
      (λ is. elim (of_with_entries c.remote page is) [ inl was ↦ inl (remote_holds c was) | inr new ↦ inr new ])
      (λ is. inl (in_local is)) (λ is. inl (in_synced is)) (λ some. inl (in_flight some))

  start_brings : (c : ClientState) (n : ℕ) → Holds (after_start n c) x k v → Holds c x k v
  start_brings c n is = only c (holds_of c (after_start n c) ⊥ (λ is. inl (remote_holds c is)) (λ is. inl (in_local is)) (λ is. inl (in_synced is))
      (λ some. inl (in_flight (any_staged (OpHolds x k v) n started c.flights some))) is)

  take_brings : (c : ClientState) (n : ℕ) (t : Taken) (news : List Entry) → Holds (after_take n t news c) x k v → Holds c x k v ⊎ Any (EntryBrings x k v) news
  take_brings c n t news = holds_of c (after_take n t news c) (Any (EntryBrings x k v) news)
      (λ is. elim (of_heard news c.remote is) [ inl was ↦ inl (remote_holds c was) | inr new ↦ inr new ])
      (λ is. inl (in_local is)) (λ is. inl (in_synced is)) (λ some. inl (in_flight (any_staged (OpHolds x k v) n (taken t) c.flights some)))

  restart_brings : (c : ClientState) → Holds (after_restart c) x k v → Holds c x k v
  restart_brings c is = only c (holds_of c (after_restart c) ⊥
      (λ was. elim was [ inl is ↦ inl (in_remote is) | inr ahead ↦ absurd (any_none (EntryBrings x k v) ahead) ])
      (λ is. inl (in_local is)) (λ is. inl (in_synced is)) (λ some. absurd (any_none (λ (f : Flight). OpHolds x k v f.op) some)) is)

  -- A DONE
  finished_brings : (c : ClientState) (n : ℕ) (t : Taken) → Holds (finished n t c) x k v → Holds c x k v
  finished_brings c n t is = only c (holds_of c (finished n t c) ⊥ (λ is. inl (remote_holds c (of_caught_up t c.remote is)))
      (λ is. inl (in_local is)) (λ is. inl (in_synced is)) (λ some. inl (in_flight (any_without (λ f. OpHolds x k v f.op) n c.flights some))) is)

  of_local : (m : Nodes) (op : Op) (split : Bool) → is_split op.verb ≡ split → IsOf k v (get (all_changed m (cond split (split_changes op) ((op.id.0, op.local) ∷ []))) x)
      → IsOf k v (get m x) ⊎ OpHolds x k v op
  of_local m op true split is = elim (of_changed (changed m op.other.0 op.local) op.id.0 Cut is) [
    | inl before ↦ elim (of_changed m op.other.0 op.local before) [
      | inl was ↦ inl was
      | inr (at, puts) ↦ inr (puts_local (ap (λ b. local_id b op) split ∙ at) puts)
    ]
    | inr put ↦ absurd put.1
  ]
  of_local m op false split is = elim (of_changed m op.id.0 op.local is) [
    | inl was ↦ inl was
    | inr (at, puts) ↦ inr (puts_local (ap (λ b. local_id b op) split ∙ at) puts)
  ]

  of_synced : (m : Nodes) (op : Op) → IsOf k v (get (changed m op.id.0 op.synced) x) → IsOf k v (get m x) ⊎ OpHolds x k v op
  of_synced m op is = elim (of_changed m op.id.0 op.synced is) [ inl was ↦ inl was | inr (at, puts) ↦ inr (puts_synced at puts) ]

  pub landed_brings : (c : ClientState) (op : Op) (t : Taken) → Holds (landed op t c) x k v → Holds c x k v ⊎ OpHolds x k v op
  landed_brings c op (came.Folder o) = holds_of c (landed op (came.Folder o) c) (OpHolds x k v op) (λ is. inl (remote_holds c is))
      (λ is. elim (of_local c.local.tree op (is_split op.verb) refl is) [ inl was ↦ inl (in_local was) | inr mine ↦ inr mine ])
      (λ is. elim (of_synced c.synced op is) [ inl was ↦ inl (in_synced was) | inr mine ↦ inr mine ])
      (λ some. inl (in_flight some))
  landed_brings c op (came.Accepted rev) = holds_of c (landed op (came.Accepted rev) c) (OpHolds x k v op) (λ is. inl (remote_holds c is)) (λ is. inl (in_local is))
      (λ is. elim (of_synced c.synced op is) [ inl was ↦ inl (in_synced was) | inr mine ↦ inr mine ])
      (λ some. inl (in_flight some))
  landed_brings c op (came.Refused why) = λ is. inl is

  came_brings : (c d : ClientState) (n : ℕ) (o : Option Flight) → flight_of n c.flights ≡ o → Came n c d o → Holds d x k v → Holds c x k v
  came_brings c d n o there (nothing p same) is = subst (λ (b : ClientState). Holds b x k v) same is
  came_brings c d n o there (dropped flight t stage same) is = finished_brings c n t (subst (λ (b : ClientState). Holds b x k v) same is)
  came_brings c d n o there (applied flight t stage why can same) is =
      elim (landed_brings (finished n t c) flight.op t (subst (λ (b : ClientState). Holds b x k v) same is)) [
        | inl was ↦ finished_brings c n t was
        | inr mine ↦ in_flight (flight_any (λ f. OpHolds x k v f.op) n c.flights flight there mine)
      ]

pub steps_bring_nothing_else : StepsBringNothingElse
steps_bring_nothing_else c = record {
  fly = λ ops x k v. fly_brings x k v c ops;
  pull = λ page x k v. pull_brings x k v c page;
  start = λ n x k v. start_brings x k v c n;
  take = λ n t news x k v. take_brings x k v c n t news;
  done = λ n d e f r x k v ends is. came_brings x k v c d n (flight_of n c.flights) refl (came_of n c d e f r ends) is;
  restart = λ x k v. restart_brings x k v c;
}
