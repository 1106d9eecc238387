-- What a change of one slot makes of the flights.
use Rattle.std.specs.Prelude.{◌&&◌, All, IsSomeAnd}
use Rattle.std.specs.List.{filter, position, cons_option}
use Rattle.std.proofs.Common.{◌≡◌, ◌≢◌, ◌<◌, ◌≤◌, ◌+◌, ◌==◌, ℕ, zero, suc, Bool, true, false, cond, List, [], ◌∷◌, ◌++◌, length, map, take, drop, get_or, Option, None, Some, refl, sym, ◌∙◌, ap, subst, arith}
use Rattle.std.proofs.Math.ListN.{set}
use Rattle.std.proofs.lemmas.List.Elements.{filter_map-append}
use Rattle.std.proofs.lemmas.List.Quantifiers.{position-Some}
use Rattle.nuc_folder.proofs.Inserts.{position-None}
use Rattle.nuc_class.specs.declared.op.Op.{Op}
use Rattle.nuc_flights.specs.Flights.{as_planned, Flight, IsPlanned, IsStarted, IsTaken, Stage, StandsAt, taken_at, taken_of, planned, started, taken, flight_of, staged, without}
use Rattle.nuc_flights.specs.Slots.{CameBefore, Finds, IsEarly, here, there, HasOutcome, IsSound, away_slot, back_slot, is_kept, planned_slot, settled_slot, flies, flight_at, flight_now, flight_was, flights_now, flights_were, is_flying, stage_at}
use Rattle.nuc_flights.specs.declared.taken.Taken.{Taken}
use Rattle.nuc_flights.specs.declared.slot.Level.{Level}
use Rattle.nuc_flights.specs.declared.slot.Level.TheVariants as level
use Rattle.nuc_flights.specs.declared.slot.Slot.{Slot}

finds : (n : ℕ) (slots : List Slot) (i : ℕ) (d : Slot) → i < length slots → flies n (get_or slots i d) ≡ true
    → ((k : ℕ) → k < i → flies n (get_or slots k d) ≡ false) → Finds n slots i (get_or slots i d)
finds n [] i d within hits miss = absurd (omega arith)
finds n (s ∷ ss) zero d within hits miss = here s ss hits
finds n (s ∷ ss) (suc i) d within hits miss =
    there s (get_or ss i d) ss i (miss 0 (omega arith)) (finds n ss i d (omega arith) hits (λ k low. miss (suc k) (omega arith)))

pub found : (n : ℕ) (slots : List Slot) (i : ℕ) (d : Slot) → position (flies n) slots ≡ Some i → Finds n slots i (get_or slots i d)
found n slots i d at = let facts = position-Some (flies n) slots i d at in finds n slots i d facts.0 facts.1 facts.2

-- A SLOT THAT ISN'T MEANT gives miss flight of the number
both_true : (a b : Bool) → (a && b) ≡ true → (a ≡ true) × (b ≡ true)
both_true true b is = (refl, is)
both_true false b is = cc

numbered_else : (n : ℕ) (op : Op) (l : Level) (came : Option Taken) (f : Flight) → (is_flying l && (op.number == n)) ≡ false
    → flight_at op (stage_at l came) ≡ Some f → (f.op.number == n) ≡ false
numbered_else n op level.Away came f miss is = cc
numbered_else n op level.Planned came f miss is = let same : op ≡ f.op = cc in ap (λ (o : Op). o.number == n) (sym same) ∙ miss
numbered_else n op level.Started came f miss is = let same : op ≡ f.op = cc in ap (λ (o : Op). o.number == n) (sym same) ∙ miss
numbered_else n op level.Taken (Some came) f miss is = let same : op ≡ f.op = cc in ap (λ (o : Op). o.number == n) (sym same) ∙ miss
numbered_else n op level.Taken None f miss is = cc

-- the first flight isn't of the number, if there is one
skips : (n : ℕ) (s : Slot) (fs : List Flight) → flies n s ≡ false → flight_of n (cons_option (flight_now s) fs) ≡ flight_of n fs
skips n s fs miss = elim (flight_now s) as (λ o. flight_now s ≡ o → flight_of n (cons_option o fs) ≡ flight_of n fs) [
  | None ↦ λ _. refl
  | Some f ↦ λ is. ap (λ b. cond b (Some f) (flight_of n fs)) (numbered_else n s.op s.at s.came f miss is)
] refl

skips_staged : (n : ℕ) (stage : Stage) (s : Slot) (fs : List Flight) → flies n s ≡ false
    → staged n stage (cons_option (flight_now s) fs) ≡ cons_option (flight_now s) (staged n stage fs)
skips_staged n stage s fs miss = elim (flight_now s) as (λ o. flight_now s ≡ o → staged n stage (cons_option o fs) ≡ cons_option o (staged n stage fs)) [
  | None ↦ λ _. refl
  | Some f ↦ λ is. ap (λ b. cond b (record f { stage = stage } ∷ fs) (f ∷ staged n stage fs)) (numbered_else n s.op s.at s.came f miss is)
] refl

skips_without : (n : ℕ) (s : Slot) (fs : List Flight) → flies n s ≡ false
    → without n (cons_option (flight_now s) fs) ≡ cons_option (flight_now s) (without n fs)
skips_without n s fs miss = elim (flight_now s) as (λ o. flight_now s ≡ o → without n (cons_option o fs) ≡ cons_option o (without n fs)) [
  | None ↦ λ _. refl
  | Some f ↦ λ is. ap (λ b. cond b fs (f ∷ without n fs)) (numbered_else n s.op s.at s.came f miss is)
] refl

-- THE SLOT THAT IS MEANT, at the stage old
pub flight_is : (n : ℕ) (slots : List Slot) (i : ℕ) (s : Slot) (old : Stage) → Finds n slots i s → stage_at s.at s.came ≡ Some old
    → flight_of n (flights_now slots) ≡ Some (record { op = s.op; stage = old })
flight_is n _ _ _ old (here s ss hits) is =
    ap (λ o. flight_of n (cons_option (flight_at s.op o) (flights_now ss))) is
    ∙ ap (λ b. cond b (Some (record { op = s.op; stage = old })) (flight_of n (flights_now ss))) (both_true (is_flying s.at) (s.op.number == n) hits).1
flight_is n _ _ _ old (there s t ss i miss rest) is = skips n s (flights_now ss) miss ∙ flight_is n ss i t old rest is

pub staged_is : (n : ℕ) (slots : List Slot) (i : ℕ) (s t : Slot) (old new : Stage) → Finds n slots i s → stage_at s.at s.came ≡ Some old
    → t.op ≡ s.op → stage_at t.at t.came ≡ Some new → flights_now (set slots i t) ≡ staged n new (flights_now slots)
staged_is n _ _ _ t old new (here s ss hits) is same now =
    ap (λ o. cons_option (flight_at t.op o) (flights_now ss)) now
    ∙ ap (λ (op : Op). record { op = op; stage = new } ∷ flights_now ss) same
    ∙ sym (ap (λ o. staged n new (cons_option (flight_at s.op o) (flights_now ss))) is
    ∙ ap (λ b. cond b (record { op = s.op; stage = new } ∷ flights_now ss) (record { op = s.op; stage = old } ∷ staged n new (flights_now ss)))
    (both_true (is_flying s.at) (s.op.number == n) hits).1)
staged_is n _ _ _ t old new (there s u ss i miss rest) is same now =
    ap (cons_option (flight_now s)) (staged_is n ss i u t old new rest is same now) ∙ sym (skips_staged n new s (flights_now ss) miss)

pub without_is : (n : ℕ) (slots : List Slot) (i : ℕ) (s t : Slot) (old : Stage) → Finds n slots i s → stage_at s.at s.came ≡ Some old
    → stage_at t.at t.came ≡ None → flights_now (set slots i t) ≡ without n (flights_now slots)
without_is n _ _ _ t old (here s ss hits) is gone =
    ap (λ o. cons_option (flight_at t.op o) (flights_now ss)) gone
    ∙ sym (ap (λ o. without n (cons_option (flight_at s.op o) (flights_now ss))) is
    ∙ ap (λ b. cond b (flights_now ss) (record { op = s.op; stage = old } ∷ without n (flights_now ss))) (both_true (is_flying s.at) (s.op.number == n) hits).1)
without_is n _ _ _ t old (there s u ss i miss rest) is gone =
    ap (cons_option (flight_now s)) (without_is n ss i u t old rest is gone) ∙ sym (skips_without n s (flights_now ss) miss)

pub were_is : (n : ℕ) (slots : List Slot) (i : ℕ) (s t : Slot) → Finds n slots i s → flight_was t ≡ flight_was s → flights_were (set slots i t) ≡ flights_were slots
were_is n _ _ _ t (here s ss hits) same = ap (λ o. cons_option o (flights_were ss)) same
were_is n _ _ _ t (there s u ss i miss rest) same = ap (cons_option (flight_was s)) (were_is n ss i u t rest same)

-- NOBODY else is found, and who is found has the stage of its level
pub finds_one : (n : ℕ) (slots : List Slot) (i j : ℕ) (s t : Slot) → Finds n slots i s → Finds n slots j t → s ≡ t
finds_one n _ _ _ _ _ (here s ss hits) (here _ _ hits2) = refl
finds_one n _ _ _ _ _ (here s ss hits) (there _ t _ j miss rest) = absurd (let clash : true ≡ false = sym hits ∙ miss in cc)
finds_one n _ _ _ _ _ (there s t ss i miss rest) (here _ _ hits) = absurd (let clash : true ≡ false = sym hits ∙ miss in cc)
finds_one n _ _ _ _ _ (there s t ss i miss rest) (there _ u _ j miss2 rest2) = finds_one n ss i j t u rest rest2

pub finds_within : (n : ℕ) (slots : List Slot) (i : ℕ) (s : Slot) → Finds n slots i s → i < length slots
finds_within n _ _ _ (here s ss hits) = omega arith
finds_within n _ _ _ (there s t ss i miss rest) = let below = finds_within n ss i t rest in omega arith

pub finds_at : (n : ℕ) (slots : List Slot) (i : ℕ) (s d : Slot) → Finds n slots i s → get_or slots i d ≡ s
finds_at n _ _ _ d (here s ss hits) = refl
finds_at n _ _ _ d (there s t ss i miss rest) = finds_at n ss i t d rest

pub finds_hit : (n : ℕ) (slots : List Slot) (i : ℕ) (s : Slot) → Finds n slots i s → flies n s ≡ true
finds_hit n _ _ _ (here s ss hits) = hits
finds_hit n _ _ _ (there s t ss i miss rest) = finds_hit n ss i t rest

pub none_found : (n : ℕ) (slots : List Slot) (i : ℕ) (s : Slot) → position (flies n) slots ≡ None → Finds n slots i s → ⊥
none_found n slots i s none finds =
    let missed = position-None (flies n) slots i s none (finds_within n slots i s finds) in
    let clash : true ≡ false = sym (finds_hit n slots i s finds) ∙ ap (flies n) (sym (finds_at n slots i s s finds)) ∙ missed in cc

-- a slot in flight has a stage
staged_by : (l : Level) (came : Option Taken) → HasOutcome l came → is_flying l ≡ true → (stage : Stage) × (stage_at l came ≡ Some stage)
staged_by level.Away came has flying = cc
staged_by level.Planned came has flying = (planned, refl)
staged_by level.Started came has flying = (started, refl)
staged_by level.Taken (Some came) has flying = (taken came, refl)
staged_by level.Taken None has flying = absurd has

pub stage_of : (n : ℕ) (s : Slot) → IsSound s → flies n s ≡ true → (stage : Stage) × (stage_at s.at s.came ≡ Some stage)
stage_of n s sound hits = staged_by s.at s.came sound.now (both_true (is_flying s.at) (s.op.number == n) hits).0

-- a flight of the number is that of the slot that is found
pub record IsOf (n : ℕ) (slots : List Slot) (f : Flight) : Type 0 where
  pub place : ℕ
  pub slot : Slot
  pub finds : Finds n slots place slot
  pub stage : stage_at slot.at slot.came ≡ Some f.stage
  pub op : f.op ≡ slot.op

pub flight_found : (n : ℕ) (slots : List Slot) (f : Flight) → All IsSound slots → flight_of n (flights_now slots) ≡ Some f → IsOf n slots f
flight_found n [] f sound is = cc
flight_found n (s ∷ ss) f sound is = elim (flies n s) as (λ b. flies n s ≡ b → IsOf n (s ∷ ss) f) [
  | true ↦ λ hits.
      let st = stage_of n s (sound 0 s (omega arith)) hits in
      let one : Some (record { op = s.op; stage = st.0 }) ≡ Some f = sym (flight_is n (s ∷ ss) 0 s st.0 (here s ss hits) st.1) ∙ is in
      let same : record { op = s.op; stage = st.0 } ≡ f = cc in record {
        place = 0;
        slot = s;
        finds = here s ss hits;
        stage = st.1 ∙ ap (λ (f : Flight). Some f.stage) same;
        op = sym (ap (λ (f : Flight). f.op) same);
      }
  | false ↦ λ miss.
      let rest = flight_found n ss f (λ k d below. sound (suc k) d (omega arith)) (sym (skips n s (flights_now ss) miss) ∙ is) in record {
        place = suc rest.place;
        slot = rest.slot;
        finds = there s rest.slot ss rest.place miss rest.finds;
        stage = rest.stage;
        op = rest.op;
      }
] refl

-- MANY SLOTS AT ONCE
abbrev pub mapped_to : ℕ → (Slot → Slot) → List Slot → List Slot
mapped_to zero f xs = xs
mapped_to (suc i) f [] = []
mapped_to (suc i) f (x ∷ xs) = f x ∷ mapped_to i f xs

pub mapped_length : (i : ℕ) (f : Slot → Slot) (xs : List Slot) → length (mapped_to i f xs) ≡ length xs
mapped_length zero f xs = refl
mapped_length (suc i) f [] = refl
mapped_length (suc i) f (x ∷ xs) = ap suc (mapped_length i f xs)

pub mapped_next : (f : Slot → Slot) (xs : List Slot) (i : ℕ) (d : Slot) → i < length xs
    → set (mapped_to i f xs) i (f (get_or (mapped_to i f xs) i d)) ≡ mapped_to (i + 1) f xs
mapped_next f [] i d below = absurd (omega arith)
mapped_next f (x ∷ xs) zero d below = refl
mapped_next f (x ∷ xs) (suc i) d below =
    let same : suc i + 1 ≡ suc (i + 1) = omega arith in
    ap (λ xs. f x ∷ xs) (mapped_next f xs i d (omega arith)) ∙ ap (λ k. mapped_to k f (x ∷ xs)) (sym same)

pub mapped_so : (f : Slot → Slot) (xs ys : List Slot) (i : ℕ) (d : Slot) → ys ≡ mapped_to i f xs → i < length ys
    → set ys i (f (get_or ys i d)) ≡ mapped_to (i + 1) f xs
mapped_so f xs ys i d is below =
    ap (λ ys. set ys i (f (get_or ys i d))) is
    ∙ mapped_next f xs i d (subst (λ n. i < n) (ap length is ∙ mapped_length i f xs) below)

pub mapped_all : (f : Slot → Slot) (xs : List Slot) (i : ℕ) → length xs ≤ i → mapped_to i f xs ≡ map f xs
mapped_all f [] zero past = refl
mapped_all f [] (suc i) past = refl
mapped_all f (x ∷ xs) zero past = absurd (omega arith)
mapped_all f (x ∷ xs) (suc i) past = ap (λ xs. f x ∷ xs) (mapped_all f xs i (omega arith))

-- a list in place of one of its length
pub in_place : (n : ℕ) (xs ys : List Slot) → length ys ≡ length xs → length xs ≡ n → take n (ys ++ drop (length ys) xs) ≡ ys
in_place zero [] [] same is = refl
in_place (suc n) [] ys same is = cc
in_place n [] (y ∷ ys) same is = cc
in_place n (x ∷ xs) [] same is = cc
in_place zero (x ∷ xs) ys same is = cc
in_place (suc n) (x ∷ xs) (y ∷ ys) same is = ap (λ ys. y ∷ ys) (in_place n xs ys (omega arith) (omega arith))

pub all_away : (xs : List Slot) → flights_now (map away_slot xs) ≡ []
all_away [] = refl
all_away (x ∷ xs) = all_away xs

pub away_were : (xs : List Slot) → flights_were (map away_slot xs) ≡ flights_were xs
away_were [] = refl
away_were (x ∷ xs) = ap (cons_option (flight_was x)) (away_were xs)

-- a slot that is dropped has no flight
nobody : (op : Op) (l : Level) (came : Option Taken) → is_flying l ≡ false → flight_at op (stage_at l came) ≡ None
nobody op level.Away came is = refl
nobody op level.Planned came is = cc
nobody op level.Started came is = cc
nobody op level.Taken came is = cc

pub kept_now : (xs : List Slot) → flights_now (filter is_kept xs) ≡ flights_now xs
kept_now [] = refl
kept_now (x ∷ xs) = elim (is_kept x) as (λ b. is_kept x ≡ b → flights_now (cond b (x ∷ filter is_kept xs) (filter is_kept xs)) ≡ flights_now (x ∷ xs)) [
  | true ↦ λ _. ap (cons_option (flight_now x)) (kept_now xs)
  | false ↦ λ off. kept_now xs ∙ sym (ap (λ o. cons_option o (flights_now xs)) (nobody x.op x.at x.came off))
] refl

same_now : (xs : List Slot) → flights_now (map settled_slot xs) ≡ flights_now xs
same_now [] = refl
same_now (x ∷ xs) = ap (cons_option (flight_now x)) (same_now xs)

-- settled: what is in flight now was so then
pub settled_now : (xs : List Slot) → flights_now (filter is_kept (map settled_slot xs)) ≡ flights_now xs
settled_now xs = kept_now (map settled_slot xs) ∙ same_now xs

alike : (xs : List Slot) → All (λ s. s.was ≡ s.at) xs → flights_were xs ≡ flights_now xs
alike [] same = refl
alike (x ∷ xs) same =
    ap (λ l. cons_option (flight_at x.op (stage_at l x.came)) (flights_were xs)) (same 0 x (omega arith))
    ∙ ap (cons_option (flight_now x)) (alike xs (λ k d below. same (suc k) d (omega arith)))

settled_alike : (xs : List Slot) → flights_were (filter is_kept (map settled_slot xs)) ≡ flights_now (filter is_kept (map settled_slot xs))
settled_alike [] = refl
settled_alike (x ∷ xs) = elim (is_flying x.at) as (λ b. flights_were (cond b (settled_slot x ∷ filter is_kept (map settled_slot xs)) (filter is_kept (map settled_slot xs)))
    ≡ flights_now (cond b (settled_slot x ∷ filter is_kept (map settled_slot xs)) (filter is_kept (map settled_slot xs)))) [
      | true ↦ ap (cons_option (flight_now x)) (settled_alike xs)
      | false ↦ settled_alike xs
    ]

pub settled_were : (xs : List Slot) → flights_were (filter is_kept (map settled_slot xs)) ≡ flights_now xs
settled_were xs = settled_alike xs ∙ settled_now xs

-- back: what was in flight then is so now
back_now_all : (xs : List Slot) → flights_now (map back_slot xs) ≡ flights_were xs
back_now_all [] = refl
back_now_all (x ∷ xs) = ap (cons_option (flight_was x)) (back_now_all xs)

pub back_now : (xs : List Slot) → flights_now (filter is_kept (map back_slot xs)) ≡ flights_were xs
back_now xs = kept_now (map back_slot xs) ∙ back_now_all xs

back_alike : (xs : List Slot) → flights_were (filter is_kept (map back_slot xs)) ≡ flights_now (filter is_kept (map back_slot xs))
back_alike [] = refl
back_alike (x ∷ xs) = elim (is_flying x.was) as (λ b. flights_were (cond b (back_slot x ∷ filter is_kept (map back_slot xs)) (filter is_kept (map back_slot xs)))
    ≡ flights_now (cond b (back_slot x ∷ filter is_kept (map back_slot xs)) (filter is_kept (map back_slot xs)))) [
      | true ↦ ap (cons_option (flight_was x)) (back_alike xs)
      | false ↦ back_alike xs
    ]

pub back_were : (xs : List Slot) → flights_were (filter is_kept (map back_slot xs)) ≡ flights_were xs
back_were xs = back_alike xs ∙ back_now xs

-- SOUND SLOTS stay so
early_stays : (l : Level) → CameBefore l l
early_stays level.Away = tt
early_stays level.Planned = tt
early_stays level.Started = tt
early_stays level.Taken = tt

all_sound : (f : Slot → Slot) → ((s : Slot) → IsSound s → IsSound (f s)) → (xs : List Slot) → All IsSound xs → All IsSound (map f xs)
all_sound f keeps [] sound k d below = absurd (omega arith)
all_sound f keeps (x ∷ xs) sound zero d below = keeps x (sound 0 x (omega arith))
all_sound f keeps (x ∷ xs) sound (suc k) d below = all_sound f keeps xs (λ k d below. sound (suc k) d (omega arith)) k d (omega arith)

rest_sound : (x : Slot) (xs : List Slot) → All IsSound (x ∷ xs) → All IsSound xs
rest_sound x xs sound k d below = sound (suc k) d (omega arith)

front_sound : (x : Slot) (xs : List Slot) → IsSound x → All IsSound xs → All IsSound (x ∷ xs)
front_sound x xs first rest zero d below = first
front_sound x xs first rest (suc k) d below = rest k d (omega arith)

kept_sound : (xs : List Slot) → All IsSound xs → All IsSound (filter is_kept xs)
kept_sound [] sound = sound
kept_sound (x ∷ xs) sound = elim (is_flying x.at) as (λ b. All IsSound (cond b (x ∷ filter is_kept xs) (filter is_kept xs))) [
  | true ↦ (λ k d below. front_sound x (filter is_kept xs) (sound 0 x (omega arith)) (kept_sound xs (rest_sound x xs sound)) k d below)
  | false ↦ kept_sound xs (rest_sound x xs sound)
]

pub away_sound : (xs : List Slot) → All IsSound xs → All IsSound (map away_slot xs)
away_sound xs sound = all_sound away_slot (λ s is. record { now = tt; then = is.then; order = tt }) xs sound

pub settled_sound : (xs : List Slot) → All IsSound xs → All IsSound (filter is_kept (map settled_slot xs))
settled_sound xs sound = kept_sound _ (all_sound settled_slot (λ s is. record { now = is.now; then = is.now; order = early_stays s.at }) xs sound)

pub back_sound : (xs : List Slot) → All IsSound xs → All IsSound (filter is_kept (map back_slot xs))
back_sound xs sound = kept_sound _ (all_sound back_slot (λ s is. record { now = is.then; then = is.then; order = early_stays s.was }) xs sound)

pub set_sound : (xs : List Slot) (i : ℕ) (t : Slot) → IsSound t → All IsSound xs → All IsSound (set xs i t)
set_sound [] i t is sound = sound
set_sound (x ∷ xs) zero t is sound = front_sound t xs is (rest_sound x xs sound)
set_sound (x ∷ xs) (suc i) t is sound = front_sound x (set xs i t) (sound 0 x (omega arith)) (set_sound xs i t is (rest_sound x xs sound))

pub found_sound : (n : ℕ) (slots : List Slot) (i : ℕ) (s : Slot) → All IsSound slots → Finds n slots i s → IsSound s
found_sound n slots i s sound finds = subst IsSound (finds_at n slots i s s finds) (sound i s (finds_within n slots i s finds))

behind_none : (fs : List Flight) → fs ++ [] ≡ fs
behind_none [] = refl
behind_none (f ∷ fs) = ap (λ fs. f ∷ fs) (behind_none fs)

-- THE STAGE by the level, and the level by the stage
pub planned_stage : (s : Slot) → s.at ≡ level.Planned → stage_at s.at s.came ≡ Some planned
planned_stage s is = ap (λ l. stage_at l s.came) is

pub started_stage : (s : Slot) → s.at ≡ level.Started → stage_at s.at s.came ≡ Some started
started_stage s is = ap (λ l. stage_at l s.came) is

taken_by : (came : Option Taken) → HasOutcome level.Taken came → (x : Taken) × (came ≡ Some x)
taken_by (Some x) has = (x, refl)
taken_by None has = absurd has

pub taken_came : (s : Slot) → IsSound s → s.at ≡ level.Taken → (x : Taken) × (s.came ≡ Some x)
taken_came s sound is = taken_by s.came (subst (λ l. HasOutcome l s.came) is sound.now)

pub taken_stage : (s : Slot) (x : Taken) → s.at ≡ level.Taken → s.came ≡ Some x → stage_at s.at s.came ≡ Some (taken x)
taken_stage s x is has = ap (λ l. stage_at l s.came) is ∙ ap (stage_at level.Taken) has

pub planned_level : (l : Level) (came : Option Taken) (stage : Stage) → stage_at l came ≡ Some stage → IsPlanned stage → l ≡ level.Planned
planned_level level.Away came stage is at = cc
planned_level level.Planned came stage is at = refl
planned_level level.Started came stage is at = let same : started ≡ stage = cc in absurd (subst IsPlanned (sym same) at)
planned_level level.Taken (Some x) stage is at = let same : taken x ≡ stage = cc in absurd (subst IsPlanned (sym same) at)
planned_level level.Taken None stage is at = cc

pub started_level : (l : Level) (came : Option Taken) (stage : Stage) → stage_at l came ≡ Some stage → IsStarted stage → l ≡ level.Started
started_level level.Away came stage is at = cc
started_level level.Planned came stage is at = let same : planned ≡ stage = cc in absurd (subst IsStarted (sym same) at)
started_level level.Started came stage is at = refl
started_level level.Taken (Some x) stage is at = let same : taken x ≡ stage = cc in absurd (subst IsStarted (sym same) at)
started_level level.Taken None stage is at = cc

pub taken_level : (l : Level) (came : Option Taken) (stage : Stage) → stage_at l came ≡ Some stage → IsTaken stage → l ≡ level.Taken
taken_level level.Away came stage is at = cc
taken_level level.Planned came stage is at = let same : planned ≡ stage = cc in absurd (subst IsTaken (sym same) at)
taken_level level.Started came stage is at = let same : started ≡ stage = cc in absurd (subst IsTaken (sym same) at)
taken_level level.Taken came stage is at = refl

-- nobody stands at a stage whose level no slot of the number has
pub absent : (n : ℕ) (slots : List Slot) (At : Stage → Type 0) (l : Level) → All IsSound slots
    → ((m : Level) (came : Option Taken) (stage : Stage) → stage_at m came ≡ Some stage → At stage → m ≡ l)
    → ((i : ℕ) (s : Slot) → Finds n slots i s → s.at ≢ l) → ¬ (StandsAt n At (flights_now slots))
absent n slots At l sound levels none = λ stands.
    elim (flight_of n (flights_now slots)) as (λ o. flight_of n (flights_now slots) ≡ o → IsSomeAnd o (λ f. At f.stage) → ⊥) [
      | None ↦ λ _ at. at
      | Some f ↦ λ is at. let of = flight_found n slots f sound is in none of.place of.slot of.finds (levels of.slot.at of.slot.came f.stage of.stage at)
    ] refl stands

pub stands : (n : ℕ) (slots : List Slot) (i : ℕ) (s : Slot) (stage : Stage) (At : Stage → Type 0) → Finds n slots i s → stage_at s.at s.came ≡ Some stage → At stage
    → StandsAt n At (flights_now slots)
stands n slots i s stage At finds is at = subst (λ o. IsSomeAnd o (λ f. At f.stage)) (sym (flight_is n slots i s stage finds is)) at

not_taken : (stage : Stage) → ¬ (IsTaken stage) → taken_at stage ≡ None
not_taken planned other = refl
not_taken started other = refl
not_taken (taken x) other = absurd (other tt)

-- who isn't taken has no came
pub none_taken : (n : ℕ) (fs : List Flight) → ¬ (StandsAt n IsTaken fs) → taken_of (flight_of n fs) ≡ None
none_taken n fs none = elim (flight_of n fs) as (λ o. ¬ (IsSomeAnd o (λ f. IsTaken f.stage)) → taken_of o ≡ None) [
  | None ↦ λ _. refl
  | Some f ↦ λ other. not_taken f.stage other
] none

-- who isn't found isn't in flight
pub not_flying : (n : ℕ) (slots : List Slot) → All IsSound slots → position (flies n) slots ≡ None → flight_of n (flights_now slots) ≡ None
not_flying n slots sound none = elim (flight_of n (flights_now slots)) as (λ o. flight_of n (flights_now slots) ≡ o → o ≡ None) [
  | None ↦ λ _. refl
  | Some f ↦ λ is. let of = flight_found n slots f sound is in absurd (none_found n slots of.place of.slot none of.finds)
] refl

early_of : (s : Slot) (l : Level) → s.at ≡ l → (CameBefore s.was l → IsEarly s.was) → IsSound s → IsEarly s.was
early_of s l is early sound = early (subst (CameBefore s.was) is sound.order)

pub start_sound : (s : Slot) → IsSound s → s.at ≡ level.Planned → IsSound (record s { at = level.Started })
start_sound s sound is = record { now = tt; then = sound.then; order = early_of s level.Planned is (λ e. e) sound }

pub finish_sound : (s : Slot) → IsSound s → IsSound (record s { at = level.Away })
finish_sound s sound = record { now = tt; then = sound.then; order = tt }

early_has : (l : Level) (came : Option Taken) → IsEarly l → HasOutcome l came
early_has level.Away came early = tt
early_has level.Planned came early = tt
early_has level.Started came early = tt
early_has level.Taken came early = absurd early

pub land_sound : (s : Slot) (x : Taken) → IsSound s → s.at ≡ level.Started → IsSound (record s { at = level.Taken; came = Some x })
land_sound s x sound is = record { now = tt; then = early_has s.was (Some x) (early_of s level.Started is (λ e. e) sound); order = tt }

was_early : (op : Op) (l : Level) (a b : Option Taken) → IsEarly l → flight_at op (stage_at l a) ≡ flight_at op (stage_at l b)
was_early op level.Away a b early = refl
was_early op level.Planned a b early = refl
was_early op level.Started a b early = refl
was_early op level.Taken a b early = absurd early

pub land_was : (s : Slot) (x : Taken) → IsSound s → s.at ≡ level.Started → flight_was (record s { at = level.Taken; came = Some x }) ≡ flight_was s
land_was s x sound is = was_early s.op s.was (Some x) s.came (early_of s level.Started is (λ e. e) sound)

-- NEW ONES, and how many fly
flights_planned : (ops : List Op) → flights_now (map planned_slot ops) ≡ map as_planned ops
flights_planned [] = refl
flights_planned (op ∷ ops) = ap (λ fs. as_planned op ∷ fs) (flights_planned ops)

were_planned : (ops : List Op) → flights_were (map planned_slot ops) ≡ []
were_planned [] = refl
were_planned (op ∷ ops) = were_planned ops

count_more : (s : Slot) (n : ℕ) (fs : List Flight) → IsSound s → n ≡ length fs → cond (is_kept s) (suc n) n ≡ length (cons_option (flight_now s) fs)
count_more s n fs sound same = elim (is_kept s) as (λ b. is_kept s ≡ b → cond b (suc n) n ≡ length (cons_option (flight_now s) fs)) [
  | true ↦ λ hits. let st = staged_by s.at s.came sound.now hits in ap suc same ∙ sym (ap (λ o. length (cons_option (flight_at s.op o) fs)) st.1)
  | false ↦ λ miss. same ∙ sym (ap (λ o. length (cons_option o fs)) (nobody s.op s.at s.came miss))
] refl

length_kept : (s : Slot) (ss : List Slot) (b : Bool) → is_kept s ≡ b → length (filter is_kept (s ∷ ss)) ≡ cond b (suc (length (filter is_kept ss))) (length (filter is_kept ss))
length_kept s ss true is = ap (λ b. length (cond b (s ∷ filter is_kept ss) (filter is_kept ss))) is
length_kept s ss false is = ap (λ b. length (cond b (s ∷ filter is_kept ss) (filter is_kept ss))) is

pub count_is : (slots : List Slot) → All IsSound slots → length (filter is_kept slots) ≡ length (flights_now slots)
count_is [] sound = refl
count_is (s ∷ ss) sound =
    length_kept s ss (is_kept s) refl ∙ count_more s _ _ (sound 0 s (omega arith)) (count_is ss (rest_sound s ss sound))

both_sound : (xs ys : List Slot) → All IsSound xs → All IsSound ys → All IsSound (xs ++ ys)
both_sound [] ys first rest = rest
both_sound (x ∷ xs) ys first rest = front_sound x (xs ++ ys) (first 0 x (omega arith)) (both_sound xs ys (rest_sound x xs first) rest)

sound_planned : (ops : List Op) → All IsSound (map planned_slot ops)
sound_planned [] = λ k d below. absurd (omega arith)
sound_planned (op ∷ ops) = front_sound (planned_slot op) (map planned_slot ops) (record { now = tt; then = tt; order = tt }) (sound_planned ops)

-- behind the slots xs, where there was memory, stand those of the operations
abbrev pub extended : Bool → List Slot → List Op → List Slot
extended enough xs ops = cond enough (xs ++ map planned_slot ops) xs

pub extended_now : (xs : List Slot) (ops : List Op) → flights_now (extended true xs ops) ≡ flights_now xs ++ map as_planned ops
extended_now xs ops = filter_map-append flight_now xs (map planned_slot ops) ∙ ap (λ fs. flights_now xs ++ fs) (flights_planned ops)

pub extended_were : (enough : Bool) (xs : List Slot) (ops : List Op) → flights_were (extended enough xs ops) ≡ flights_were xs
extended_were true xs ops =
    filter_map-append flight_was xs (map planned_slot ops) ∙ ap (λ fs. flights_were xs ++ fs) (were_planned ops) ∙ behind_none (flights_were xs)
extended_were false xs ops = refl

pub extended_sound : (enough : Bool) (xs : List Slot) (ops : List Op) → All IsSound xs → All IsSound (extended enough xs ops)
extended_sound true xs ops sound = both_sound xs (map planned_slot ops) sound (sound_planned ops)
extended_sound false xs ops sound = sound
