-- What is ready stays so.
use Rattle.std.specs.Prelude.{All, AllPairs}
use Rattle.std.proofs.Common.{◌≡◌, ◌⊎◌, ◌<◌, ◌==◌, ℕ, suc, Bool, true, false, cond, List, [], ◌∷◌, length, Option, None, Some, refl, sym, ◌∙◌, subst, inl, inr, rules, arith}
use Rattle.std.proofs.lemmas.List.Elements.{All-cons, All-head, All-nil, All-tail}
use Rattle.std.proofs.lemmas.List.Kept.{AllPairs-cons}
use Rattle.std.specs.FinMap.{get}
use Rattle.nuc_base.specs.Changes.{Apart, IsLegal}
use Rattle.nuc_base.specs.Trees.{Nodes}
use Rattle.nuc_base.specs.declared.change.Change.{Change}
use Rattle.nuc_base.specs.declared.change.Change.TheVariants.{Keep, Put, Cut}
use Rattle.nuc_base.specs.declared.node.Node.{Node}
use Rattle.nuc_base.proofs.Changed.{get_changed_other}
use Rattle.nuc_base.proofs.Commute.{apart-sym, apart_after, apart_keep, legal_after}
use Rattle.nuc_base.specs.Ready.{LegalInTurn}
use Rattle.nuc_class.specs.declared.op.Op.{Op}
use Rattle.nuc_flights.specs.Flights.{Flight, Stage, flight_of, planned, staged, started, taken, without}
use Rattle.nuc_flights.specs.declared.taken.Taken.{Taken}
use Rattle.nuc_flights.specs.declared.taken.Taken.TheVariants as came
use Rattle.nuc_folder.specs.Outcome.{is_success}
use Rattle.nuc_folder.specs.declared.item.Key.{Key}
use Rattle.nuc_folder.specs.declared.outcome.Outcome.{Outcome}
use Rattle.nuc_folder.specs.declared.outcome.Outcome.TheVariants as outcome
use Rattle.nuc_lookup.proofs.Maps as numbers
use Rattle.nuc_lookup.specs.Undo.{led}
use Rattle.nuc_observe.specs.Keys.{IsUnheld, KeyMap}
use Rattle.nuc_replica.specs.Remote.{RemoteState, heard}
use Rattle.nuc_step.specs.Client.{ClientState}
use Rattle.nuc_step.specs.Order.{AreSeparate, IsReady, KeyStands, MayLand, OtherKeys, ReadyStaysReady}
use Rattle.nuc_step.specs.Sound.{IsClient, IsFlight, MayFly, known_to}
use Rattle.nuc_step.specs.Steps.{OtherIsNew, after_pull, finished, is_split, landed, local_changes, reason_of, split_changes}
use Rattle.nuc_step.specs.declared.reason.Reason.{Reason}
use Rattle.nuc_step.proofs.Flying.{all_staged, all_without, flight_in}
use Rattle.nuc_step.proofs.Ready.{done_leaves, ended, ended_as, ended_at}
use Rattle.nuc_step.proofs.Swaps.{ended_one, key_at, key_with, lands_at, led_here, led_off, one_ended, shown_at, when}

-- ANY TWO OF A LIST
pub pairs_head : {X : Type 0} (R : X → X → Type 0) (x : X) (xs : List X) → AllPairs R (x ∷ xs) → All (R x) xs
pairs_head R x xs all k d below = all 0 (suc k) d (omega arith) (omega (arith, below))

pub pairs_tail : {X : Type 0} (R : X → X → Type 0) (x : X) (xs : List X) → AllPairs R (x ∷ xs) → AllPairs R xs
pairs_tail R x xs all i j d less below = all (suc i) (suc j) d (omega (arith, less)) (omega (arith, below))

pub pairs_nil : {X : Type 0} (R : X → X → Type 0) → AllPairs R []
pairs_nil R i j d less below = absurd (omega (arith, below))

pairs_weaker : {X : Type 0} (R Q : X → X → Type 0) → ((x y : X) → R x y → Q x y) → (xs : List X) → AllPairs R xs → AllPairs Q xs
pairs_weaker R Q weaker xs all i j d less below = weaker _ _ (all i j d less below)

-- one of a list is so with all others
pub others_of : (R : Flight → Flight → Type 0) → ((f g : Flight) → R f g → R g f) → (n : ℕ) (fs : List Flight) (f : Flight) → AllPairs R fs → flight_of n fs ≡ Some f
    → All (R f) (without n fs)
others_of R flips n [] f all is = cc
others_of R flips n (g ∷ fs) f all is = elim (g.op.number == n) as (λ b. cond b (Some g) (flight_of n fs) ≡ Some f → All (R f) (cond b fs (g ∷ without n fs))) [
  | true ↦ λ same. let it : g ≡ f = cc in subst (λ h. All (R h) fs) it (pairs_head R g fs all)
  | false ↦ λ there. All-cons (R f) g (without n fs) (flips g f (flight_in (R g) n fs f there (pairs_head R g fs all))) (others_of R flips n fs f (pairs_tail R g fs all) there)
] is

pairs_without : (R : Flight → Flight → Type 0) (n : ℕ) (fs : List Flight) → AllPairs R fs → AllPairs R (without n fs)
pairs_without R n [] all = all
pairs_without R n (f ∷ fs) all = elim (f.op.number == n) as (λ b. AllPairs R (cond b fs (f ∷ without n fs))) [
  | true ↦ pairs_tail R f fs all
  | false ↦ AllPairs-cons R f (without n fs) (all_without (R f) n fs (pairs_head R f fs all)) (pairs_without R n fs (pairs_tail R f fs all))
]

-- SEPARATE EITHER WAY
other_keys-sym : (s t : Stage) → OtherKeys s t → OtherKeys t s
other_keys-sym (taken (came.Folder (outcome.Made k))) (taken (came.Folder (outcome.Made j))) other = λ e. other (sym e)
other_keys-sym (taken (came.Folder (outcome.Made k))) (taken (came.Folder outcome.Ok)) other = tt
other_keys-sym s t other = search rules

pub separate-sym : (c : ClientState) (f g : Flight) → AreSeparate c f g → AreSeparate c g f
separate-sym c f g apart = record {
  ids = λ e. apart.ids (sym e);
  one = apart.other_one;
  other_one = apart.one;
  local = apart-sym c.local.tree f.op.id.0 g.op.id.0 f.op.local g.op.local apart.local;
  synced = apart-sym c.synced f.op.id.0 g.op.id.0 f.op.synced g.op.synced apart.synced;
  keys = other_keys-sym f.stage g.stage apart.keys;
}

-- A CHANGE THAT IS MADE, OR ISN'T
when_legal : (m : Nodes) (x : ℕ) (b : Bool) (c : Change) → IsLegal m x c → IsLegal m x (when b c)
when_legal m x true c legal = legal
when_legal m x false c legal = tt

when_apart : (m : Nodes) (x : ℕ) (b : Bool) (c : Change) (y : ℕ) (d : Change) → Apart m x c y d → Apart m x (when b c) y d
when_apart m x true c y d apart = apart
when_apart m x false c y d apart = apart_keep m x y d

-- one change is legal by itself
one_legal : (m : Nodes) (op : Op) → is_split op.verb ≡ false → LegalInTurn m (local_changes op) → IsLegal m op.id.0 op.local
one_legal m op plain legal = (subst (λ b. LegalInTurn m (cond b (split_changes op) ((op.id.0, op.local) ∷ []))) plain legal).0

pub one_in_turn : (m : Nodes) (op : Op) → is_split op.verb ≡ false → IsLegal m op.id.0 op.local → LegalInTurn m (local_changes op)
one_in_turn m op plain legal = subst (λ b. LegalInTurn m (cond b (split_changes op) ((op.id.0, op.local) ∷ []))) (sym plain) (legal, tt)

pub other_new : (m : Nodes) (op : Op) → is_split op.verb ≡ false → OtherIsNew (is_split op.verb) m op.other.0
other_new m op plain = subst (λ b. OtherIsNew b m op.other.0) (sym plain) tt

-- AFTER ONE DONE, what is separate from it may still land
module _ (c : ClientState) (is : IsClient c) (f : Flight) (n : ℕ) (fits : MayFly f.op) (may : MayLand c f) (plain : is_split f.op.verb ≡ false) where
  abbrev after : ClientState
  after = one_ended f.op f.stage n c

  may_land_after : (g : Flight) → AreSeparate c f g → MayLand c g → MayLand after g
  may_land_after g apart lands = (
    record {
      old = get_changed_other c.local.tree f.op.id.0 (when (shown_at f.stage) f.op.local) g.op.id.0 (λ e. apart.ids (sym e)) ∙ lands.0.old;
      other = other_new after.local.tree g.op apart.other_one;
      legal = one_in_turn after.local.tree g.op apart.other_one (legal_after c.local.tree f.op.id.0 g.op.id.0 (when (shown_at f.stage) f.op.local) g.op.local is.local.form fits.id apart.ids
          (when_legal c.local.tree f.op.id.0 (shown_at f.stage) f.op.local (one_legal c.local.tree f.op plain may.0.legal))
          (one_legal c.local.tree g.op apart.other_one lands.0.legal)
          (when_apart c.local.tree f.op.id.0 (shown_at f.stage) f.op.local g.op.id.0 g.op.local apart.local));
      key = tt;
    },
    record {
      old = get_changed_other c.synced f.op.id.0 (when (lands_at f.stage) f.op.synced) g.op.id.0 (λ e. apart.ids (sym e)) ∙ lands.1.old;
      legal = legal_after c.synced f.op.id.0 g.op.id.0 (when (lands_at f.stage) f.op.synced) g.op.synced is.synced fits.id apart.ids
          (when_legal c.synced f.op.id.0 (lands_at f.stage) f.op.synced may.1.legal) lands.1.legal
          (when_apart c.synced f.op.id.0 (lands_at f.stage) f.op.synced g.op.id.0 g.op.synced apart.synced);
    },
  )

  separate_after : (g h : Flight) → AreSeparate c f g → AreSeparate c f h → MayLand c g → MayLand c h → AreSeparate c g h → AreSeparate after g h
  separate_after g h with_g with_h g_lands h_lands apart = record {
    ids = apart.ids;
    one = apart.one;
    other_one = apart.other_one;
    local = apart_after c.local.tree g.op.id.0 h.op.id.0 f.op.id.0 g.op.local h.op.local (when (shown_at f.stage) f.op.local) is.local.form fits.id
        (λ e. with_g.ids (sym e)) (λ e. with_h.ids (sym e))
        (one_legal c.local.tree g.op apart.one g_lands.0.legal) (one_legal c.local.tree h.op apart.other_one h_lands.0.legal) apart.local
        (when_apart c.local.tree f.op.id.0 (shown_at f.stage) f.op.local g.op.id.0 g.op.local with_g.local)
        (when_apart c.local.tree f.op.id.0 (shown_at f.stage) f.op.local h.op.id.0 h.op.local with_h.local);
    synced = apart_after c.synced g.op.id.0 h.op.id.0 f.op.id.0 g.op.synced h.op.synced (when (lands_at f.stage) f.op.synced) is.synced fits.id
        (λ e. with_g.ids (sym e)) (λ e. with_h.ids (sym e)) g_lands.1.legal h_lands.1.legal apart.synced
        (when_apart c.synced f.op.id.0 (lands_at f.stage) f.op.synced g.op.id.0 g.op.synced with_g.synced)
        (when_apart c.synced f.op.id.0 (lands_at f.stage) f.op.synced h.op.id.0 h.op.synced with_h.synced);
    keys = apart.keys;
  }

-- KEYS. A key that was made for one isn't held by another that ends
key_comes_of : (old : Option Node) (change : Change) (o : Outcome) (key : Option ℕ) (j : ℕ) → key_with old change o key ≡ Some j
    → (key ≡ Some j) ⊎ ((k : Key) × (o ≡ outcome.Made k) × (k.0 ≡ j))
key_comes_of None (Put n) (outcome.Made k) key j is = let same : k.0 ≡ j = cc in inr (k, refl, same)
key_comes_of None (Put n) outcome.Ok key j is = inl is
key_comes_of None (Put n) outcome.Changed key j is = inl is
key_comes_of None (Put n) outcome.Taken key j is = inl is
key_comes_of None (Put n) outcome.NotEmpty key j is = inl is
key_comes_of None (Put n) outcome.Failed key j is = inl is
key_comes_of None (Put n) outcome.Memory key j is = inl is
key_comes_of None Keep o key j is = inl is
key_comes_of None Cut o key j is = cc
key_comes_of (Some m) (Put n) o key j is = inl is
key_comes_of (Some m) Keep o key j is = inl is
key_comes_of (Some m) Cut o key j is = cc

-- what an operation that ended holds, it held before, or it was made for it
abbrev MadeFor : Stage → ℕ → Type 0
MadeFor (taken (came.Folder (outcome.Made k))) j = k.0 ≡ j
MadeFor _ j = ⊥

made_for : (o : Outcome) (j : ℕ) → (k : Key) × (o ≡ outcome.Made k) × (k.0 ≡ j) → MadeFor (taken (came.Folder o)) j
made_for o j (k, made, same) = subst (λ p. MadeFor (taken (came.Folder p)) j) (sym made) same

folder_key : (op : Op) (o : Outcome) (b : Bool) (key : Option ℕ) (j : ℕ) → cond b (key_with op.old_local op.local o key) key ≡ Some j
    → (key ≡ Some j) ⊎ MadeFor (taken (came.Folder o)) j
folder_key op o true key j is = elim (key_comes_of op.old_local op.local o key j is) [ inl was ↦ inl was | inr made ↦ inr (made_for o j made) ]
folder_key op o false key j is = inl is

key_then : (op : Op) (st : Stage) (key : Option ℕ) (j : ℕ) → key_at op st key ≡ Some j → (key ≡ Some j) ⊎ MadeFor st j
key_then op planned key j is = inl is
key_then op started key j is = inl is
key_then op (taken (came.Folder o)) key j is = folder_key op o (is_success o) key j is
key_then op (taken (came.Accepted rev)) key j is = inl is
key_then op (taken (came.Refused why)) key j is = inl is

not_made_for : (st : Stage) (k : ℕ) → MadeFor st k → (key : Key) → key.0 ≡ k → OtherKeys st (taken (came.Folder (outcome.Made key))) → ⊥
not_made_for planned k made key is other = made
not_made_for started k made key is other = made
not_made_for (taken (came.Folder (outcome.Made j))) k made key is other = other (made ∙ sym is)
not_made_for (taken (came.Folder outcome.Ok)) k made key is other = made
not_made_for (taken (came.Folder outcome.Changed)) k made key is other = made
not_made_for (taken (came.Folder outcome.Taken)) k made key is other = made
not_made_for (taken (came.Folder outcome.NotEmpty)) k made key is other = made
not_made_for (taken (came.Folder outcome.Failed)) k made key is other = made
not_made_for (taken (came.Folder outcome.Memory)) k made key is other = made
not_made_for (taken (came.Accepted rev)) k made key is other = made
not_made_for (taken (came.Refused why)) k made key is other = made

unheld_after : (op : Op) (st : Stage) (ks : KeyMap) (key : Key) → IsUnheld ks key.0 → OtherKeys st (taken (came.Folder (outcome.Made key)))
    → IsUnheld (led ks op.id.0 (key_at op st (get ks op.id.0))) key.0
unheld_after op st ks key free other y at = elim (numbers.same_or_not y op.id.0) [
  | inl same ↦ elim (key_then op st (get ks op.id.0) key.0 (sym (led_here ks op.id.0 (key_at op st (get ks op.id.0)) y same) ∙ at)) [
    | inl was ↦ free op.id.0 was
    | inr made ↦ not_made_for st key.0 made key refl other
  ]
  | inr apart ↦ free y (sym (led_off ks op.id.0 (key_at op st (get ks op.id.0)) y apart) ∙ at)
]

key_stands_after : (op : Op) (st su : Stage) (ks : KeyMap) → KeyStands ks su → OtherKeys st su → KeyStands (led ks op.id.0 (key_at op st (get ks op.id.0))) su
key_stands_after op st planned ks stands other = tt
key_stands_after op st started ks stands other = tt
key_stands_after op st (taken (came.Folder (outcome.Made k))) ks stands other = unheld_after op st ks k stands other
key_stands_after op st (taken (came.Folder outcome.Ok)) ks stands other = tt
key_stands_after op st (taken (came.Folder outcome.Changed)) ks stands other = tt
key_stands_after op st (taken (came.Folder outcome.Taken)) ks stands other = tt
key_stands_after op st (taken (came.Folder outcome.NotEmpty)) ks stands other = tt
key_stands_after op st (taken (came.Folder outcome.Failed)) ks stands other = tt
key_stands_after op st (taken (came.Folder outcome.Memory)) ks stands other = tt
key_stands_after op st (taken (came.Accepted rev)) ks stands other = tt
key_stands_after op st (taken (came.Refused why)) ks stands other = tt

-- AFTER A DONE
none_ready : (d : ClientState) → d.flights ≡ [] → IsReady d
none_ready d none = record {
  each = subst (All (MayLand d)) (sym none) (All-nil (MayLand d));
  keys = subst (All (λ f. KeyStands d.local.keys f.stage)) (sym none) (All-nil (λ f. KeyStands d.local.keys f.stage));
  pairs = subst (AllPairs (AreSeparate d)) (sym none) (pairs_nil (AreSeparate d));
}

flights_landed : (op : Op) (t : Taken) (c : ClientState) → (landed op t c).flights ≡ c.flights
flights_landed op (came.Folder o) c = refl
flights_landed op (came.Accepted rev) c = refl
flights_landed op (came.Refused why) c = refl

pub flights_ended : (op : Op) (t : Taken) (why : Option Reason) (n : ℕ) (c : ClientState) → (ended_as op t why n c).flights ≡ without n c.flights
flights_ended op t None n c = flights_landed op t (finished n t c)
flights_ended op t (Some why) n c = refl

module _ (c : ClientState) (is : IsClient c) (ready : IsReady c) (n : ℕ) where
  ready_one : (op : Op) (t : Taken) → flight_of n c.flights ≡ Some (record { op = op; stage = taken t }) → is_split op.verb ≡ false → IsReady (one_ended op (taken t) n c)
  ready_one op t there plain =
      let f : Flight = record { op = op; stage = taken t } in
      let fits = (flight_in (IsFlight (known_to c.remote)) n c.flights f there is.flights).op in
      let may = flight_in (MayLand c) n c.flights f there ready.each in
      let apart = others_of (AreSeparate c) (separate-sym c) n c.flights f ready.pairs there in
      let lands = all_without (MayLand c) n c.flights ready.each in
      let stand = all_without (λ g. KeyStands c.local.keys g.stage) n c.flights ready.keys in
      let pairs = pairs_without (AreSeparate c) n c.flights ready.pairs in
      record {
        each = λ k d below. may_land_after c is f n fits may plain _ (apart k d below) (lands k d below);
        keys = λ k d below. key_stands_after op (taken t) _ c.local.keys (stand k d below) (apart k d below).keys;
        pairs = λ i j d less below.
            let first : i < length (without n c.flights) = omega (arith, less, below) in
            separate_after c is f n fits may plain _ _ (apart i d first) (apart j d below) (lands i d first) (lands j d below) (pairs i j d less below);
      }

  ready_taken : (op : Op) (t : Taken) → flight_of n c.flights ≡ Some (record { op = op; stage = taken t }) → (rest : List Flight) → without n c.flights ≡ rest
      → IsReady (ended_at op (taken t) n c)
  ready_taken op t there [] alone = none_ready (ended_at op (taken t) n c) (flights_ended op t (reason_of t) n c ∙ alone)
  ready_taken op t there (g ∷ gs) more =
      let apart = others_of (AreSeparate c) (separate-sym c) n c.flights (record { op = op; stage = taken t }) ready.pairs there in
      let plain = (All-head (AreSeparate c (record { op = op; stage = taken t })) g gs (subst (All (AreSeparate c (record { op = op; stage = taken t }))) more apart)).one in
      subst IsReady (sym (ended_one op n c plain (taken t))) (ready_one op t there plain)

  ready_at : (op : Op) (st : Stage) → flight_of n c.flights ≡ Some (record { op = op; stage = st }) → IsReady (ended_at op st n c)
  ready_at op planned there = ready
  ready_at op started there = ready
  ready_at op (taken t) there = ready_taken op t there (without n c.flights) refl

  ready_of : (o : Option Flight) → flight_of n c.flights ≡ o → IsReady (ended n o c)
  ready_of None none = ready
  ready_of (Some f) there = ready_at f.op f.stage there

  pub ready_ended : IsReady (ended n (flight_of n c.flights) c)
  ready_ended = ready_of (flight_of n c.flights) refl

-- WHILE THEY ARE STARTED AND TAKEN
staged_all : (P : Flight → Type 0) (n : ℕ) (st : Stage) (fs : List Flight) → ((f : Flight) → P f → P (record f { stage = st })) → All P fs → All P (staged n st fs)
staged_all P n st fs keeps all = all_staged P n st fs (λ f _ its. keeps f its) all

-- keys are apart where one of a list comes to another stage
abbrev at_stage : Stage → Flight → Flight
at_stage st f = record f { stage = st }

staged_pairs : (R : Flight → Flight → Type 0) (P : Flight → Type 0) (n : ℕ) (st : Stage) (fs : List Flight) → ((f g : Flight) → P g → R f g → R (at_stage st f) g)
    → ((f g : Flight) → P f → R f g → R f (at_stage st g)) → All P fs → AllPairs R fs → AllPairs R (staged n st fs)
staged_pairs R P n st [] first second each all = all
staged_pairs R P n st (f ∷ fs) first second each all =
    elim (f.op.number == n) as (λ b. AllPairs R (cond b (at_stage st f ∷ fs) (f ∷ staged n st fs))) [
      | true ↦ AllPairs-cons R (at_stage st f) fs (λ k d below. first f _ (All-tail P f fs each k d below) (pairs_head R f fs all k d below)) (pairs_tail R f fs all)
      | false ↦
          AllPairs-cons R f (staged n st fs) (staged_all (R f) n st fs (λ g is. second f g (All-head P f fs each) is) (pairs_head R f fs all))
          (staged_pairs R P n st fs first second (All-tail P f fs each) (pairs_tail R f fs all))
    ]

other_keys_of : (st : Stage) → OtherKeys st started
other_keys_of planned = tt
other_keys_of started = tt
other_keys_of (taken (came.Folder (outcome.Made k))) = tt
other_keys_of (taken (came.Folder outcome.Ok)) = tt
other_keys_of (taken (came.Folder outcome.Changed)) = tt
other_keys_of (taken (came.Folder outcome.Taken)) = tt
other_keys_of (taken (came.Folder outcome.NotEmpty)) = tt
other_keys_of (taken (came.Folder outcome.Failed)) = tt
other_keys_of (taken (came.Folder outcome.Memory)) = tt
other_keys_of (taken (came.Accepted rev)) = tt
other_keys_of (taken (came.Refused why)) = tt

-- they are separate by what Local and Synced are
separate_elsewhere : (c : ClientState) (remote : RemoteState) (flights fs : List Flight) → AllPairs (AreSeparate c) fs
    → AllPairs (AreSeparate (record c { remote = remote; flights = flights })) fs
separate_elsewhere c remote flights fs pairs i j d less below =
    let apart = pairs i j d less below in
    record { ids = apart.ids; one = apart.one; other_one = apart.other_one; local = apart.local; synced = apart.synced; keys = apart.keys }

module _ (c : ClientState) (ready : IsReady c) (n : ℕ) (st : Stage) where
  abbrev New : Flight → Type 0
  New f = OtherKeys f.stage st × OtherKeys st f.stage

  first_staged : (f g : Flight) → New g → AreSeparate c f g → AreSeparate c (at_stage st f) g
  first_staged f g new apart = record { ids = apart.ids; one = apart.one; other_one = apart.other_one; local = apart.local; synced = apart.synced; keys = new.1 }

  second_staged : (f g : Flight) → New f → AreSeparate c f g → AreSeparate c f (at_stage st g)
  second_staged f g new apart = record { ids = apart.ids; one = apart.one; other_one = apart.other_one; local = apart.local; synced = apart.synced; keys = new.0 }

  ready_staged : KeyStands c.local.keys st → All New c.flights → IsReady (record c { flights = staged n st c.flights })
  ready_staged stands new = record {
    each = staged_all (MayLand c) n st c.flights (λ f lands. lands) ready.each;
    keys = staged_all (λ f. KeyStands c.local.keys f.stage) n st c.flights (λ f _. stands) ready.keys;
    pairs = separate_elsewhere c c.remote (staged n st c.flights) (staged n st c.flights)
        (staged_pairs (AreSeparate c) New n st c.flights first_staged second_staged new ready.pairs);
  }

-- what is ready doesn't look at Remote
other_remote : (c : ClientState) (remote : RemoteState) → IsReady c → IsReady (record c { remote = remote })
other_remote c remote ready = record {
  each = ready.each;
  keys = ready.keys;
  pairs = separate_elsewhere c remote c.flights c.flights ready.pairs;
}

pub ready_stays_ready : ReadyStaysReady
ready_stays_ready c is ready = record {
  pull = λ page. other_remote c (after_pull page c).remote ready;
  start = λ n. ready_staged c ready n started tt (λ k d below. (other_keys_of _, tt));
  take = λ n t news new. other_remote (record c { flights = staged n (taken t) c.flights }) (heard news c.remote) (ready_staged c ready n (taken t) new.client new.flights);
  done = λ n d e f r ends. subst IsReady (sym (done_leaves n c d e f r ready ends).0) (ready_ended c is ready n);
}
