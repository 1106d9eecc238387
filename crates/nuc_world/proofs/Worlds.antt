-- A step of a member, or of what all share, is one of the world; and the log leads to what there is after it.
use Rattle.std.specs.Prelude.{Result, Ok, Err, OnOk, IfErr, option_map, set, slice_get}
use Rattle.std.proofs.Common.{◌≡◌, ◌≢◌, ◌<◌, ◌+◌, ◌∷◌, ℕ, zero, suc, List, [], Some, None, length, map, get_or, refl, sym, ◌∙◌, ap, subst, arith}
use Rattle.std.proofs.lemmas.List.{map-set}
use Rattle.std.proofs.lemmas.Option.{slice_get-map, slice_get_read}
use Rattle.nuc_log.specs.declared.event.Event.{Event}
use Rattle.nuc_log.specs.declared.event.Event.TheVariants as event
use Rattle.nuc_log.specs.declared.log.LogEntry.{LogEntry}
use Rattle.nuc_log.specs.declared.reply.Reply.{Reply}
use Rattle.nuc_log.specs.declared.reply.Reply.TheVariants as reply
use Rattle.nuc_server.specs.WebEdits.{WebState}
use Rattle.nuc_server.specs.declared.web_edit.WebEdit.{WebEdit}
use Rattle.nuc_world.specs.Parts.{turn_at}
use Rattle.nuc_world.specs.Runs.{Reaches}
use Rattle.nuc_world.specs.Runs.Reaches.{stepped, unlisted}
use Rattle.nuc_world.specs.Shares.{SharesStep, StopsShared}
use Rattle.nuc_world.specs.State.{MemberState, Turn, WorldState, after_one, member_of, with_member}
use Rattle.nuc_world.specs.Step.{IsStep, IsTurn, client_of}
use Rattle.nuc_world.specs.Turns.{CostsTurn, IsList, StepsTurn, StopsTurn, client_in}
use Rattle.nuc_world.specs.Turns.CostsTurn.{one as turn_one, listing as turn_listing}
use Rattle.nuc_world.specs.World.{Costs, Steps, Stops, WorldData, is_of}
use Rattle.nuc_world.specs.World.Costs.{one, listing}
use Rattle.nuc_world.specs.declared.stop.Stop.{Stop}
use Rattle.nuc_world.specs.declared.stop.Stop.TheVariants as stop

-- AN EVENT OF A CLIENT
its_client : (e : Event) (c : ℕ) → client_in e ≡ Some c → client_of e ≡ c
its_client (event.User d edit) c its = cc
its_client (event.Web edit) c its = cc
its_client (event.List d) c its = cc
its_client (event.Scan d) c its = cc
its_client (event.Watch d) c its = cc
its_client (event.Pull d) c its = cc
its_client (event.Plan d) c its = cc
its_client (event.Start d n) c its = cc
its_client (event.Take d n) c its = cc
its_client (event.Done d n) c its = cc
its_client (event.Restart d) c its = cc
its_client (event.Mark d) c its = cc

as_step : (e : Event) (c : ℕ) (log : List LogEntry) (r : Reply) (w v : WorldState) → client_in e ≡ Some c → IsTurn log e r w v → IsStep log w e r v
as_step (event.User d edit) c log r w v its turn = turn
as_step (event.Web edit) c log r w v its turn = cc
as_step (event.List d) c log r w v its turn = turn
as_step (event.Scan d) c log r w v its turn = turn
as_step (event.Watch d) c log r w v its turn = turn
as_step (event.Pull d) c log r w v its turn = turn
as_step (event.Plan d) c log r w v its turn = turn
as_step (event.Start d n) c log r w v its turn = turn
as_step (event.Take d n) c log r w v its turn = turn
as_step (event.Done d n) c log r w v its turn = turn
as_step (event.Restart d) c log r w v its turn = turn
as_step (event.Mark d) c log r w v its turn = turn

is_there : (e : Event) (w : WorldState) (m : MemberState) → member_of (client_of e) w.members ≡ Some m → is_of e w
is_there (event.User d edit) w m was = (m, was)
is_there (event.Web edit) w m was = tt
is_there (event.List d) w m was = (m, was)
is_there (event.Scan d) w m was = (m, was)
is_there (event.Watch d) w m was = (m, was)
is_there (event.Pull d) w m was = (m, was)
is_there (event.Plan d) w m was = (m, was)
is_there (event.Start d n) w m was = (m, was)
is_there (event.Take d n) w m was = (m, was)
is_there (event.Done d n) w m was = (m, was)
is_there (event.Restart d) w m was = (m, was)
is_there (event.Mark d) w m was = (m, was)

-- where there is no such member, it isn't of the world
pub is_of_none : (e : Event) (c : ℕ) (w : WorldState) → client_in e ≡ Some c → member_of c w.members ≡ None → ¬ (is_of e w)
is_of_none (event.User d edit) c w its none (m, was) = cc
is_of_none (event.Web edit) c w its none is = cc
is_of_none (event.List d) c w its none (m, was) = cc
is_of_none (event.Scan d) c w its none (m, was) = cc
is_of_none (event.Watch d) c w its none (m, was) = cc
is_of_none (event.Pull d) c w its none (m, was) = cc
is_of_none (event.Plan d) c w its none (m, was) = cc
is_of_none (event.Start d n) c w its none (m, was) = cc
is_of_none (event.Take d n) c w its none (m, was) = cc
is_of_none (event.Done d n) c w its none (m, was) = cc
is_of_none (event.Restart d) c w its none (m, was) = cc
is_of_none (event.Mark d) c w its none (m, was) = cc

is_of_web : (e : Event) (w : WorldState) → client_in e ≡ None → is_of e w
is_of_web (event.User d edit) w none = cc
is_of_web (event.Web edit) w none = tt
is_of_web (event.List d) w none = cc
is_of_web (event.Scan d) w none = cc
is_of_web (event.Watch d) w none = cc
is_of_web (event.Pull d) w none = cc
is_of_web (event.Plan d) w none = cc
is_of_web (event.Start d n) w none = cc
is_of_web (event.Take d n) w none = cc
is_of_web (event.Done d n) w none = cc
is_of_web (event.Restart d) w none = cc
is_of_web (event.Mark d) w none = cc

list_of : (e : Event) (c : ℕ) → client_in e ≡ Some c → IsList e → e ≡ event.List c
list_of (event.User d edit) c its is = absurd is
list_of (event.Web edit) c its is = absurd is
list_of (event.List d) c its is = cc
list_of (event.Scan d) c its is = absurd is
list_of (event.Watch d) c its is = absurd is
list_of (event.Pull d) c its is = absurd is
list_of (event.Plan d) c its is = absurd is
list_of (event.Start d n) c its is = absurd is
list_of (event.Take d n) c its is = absurd is
list_of (event.Done d n) c its is = absurd is
list_of (event.Restart d) c its is = absurd is
list_of (event.Mark d) c its is = absurd is

pub is_web : (e : Event) → client_in e ≡ None → ((edit : WebEdit) → e ≢ event.Web edit) → ⊥
is_web (event.User d edit) none other = cc
is_web (event.Web edit) none other = other edit refl
is_web (event.List d) none other = cc
is_web (event.Scan d) none other = cc
is_web (event.Watch d) none other = cc
is_web (event.Pull d) none other = cc
is_web (event.Plan d) none other = cc
is_web (event.Start d n) none other = cc
is_web (event.Take d n) none other = cc
is_web (event.Done d n) none other = cc
is_web (event.Restart d) none other = cc
is_web (event.Mark d) none other = cc

set_same : {X : Type 0} (xs : List X) (i : ℕ) (x : X) → slice_get xs i ≡ Some x → set xs i x ≡ xs
set_same [] i x at = refl
set_same (y ∷ ys) zero x at = let same : y ≡ x = cc in ap (λ z. z ∷ ys) (sym same)
set_same (y ∷ ys) (suc i) x at = ap (λ zs. y ∷ zs) (set_same ys i x at)

-- WORLDS by their parts
abbrev pub state_with : WebState → List MemberState → WorldState
state_with s ms = record { shared = s; members = ms }

abbrev pub data_with : WebState → List MemberState → List LogEntry → WorldData
data_with s ms log = record { now = state_with s ms; log = log }

pub same_state : (s t : WebState) (ms ns : List MemberState) → s ≡ t → ms ≡ ns → state_with s ms ≡ state_with t ns
same_state s t ms ns shared members = ap (λ x. state_with x ms) shared ∙ ap (λ x. state_with t x) members

same_data : (s t : WebState) (ms ns : List MemberState) (log : List LogEntry) → s ≡ t → ms ≡ ns → data_with s ms log ≡ data_with t ns log
same_data s t ms ns log shared members = ap (λ x. data_with x ms log) shared ∙ ap (λ x. data_with t x log) members

-- A STEP OF THE MEMBER AT A PLACE
module _ (s : WebState) (ms : List MemberState) (i : ℕ) (m n : MemberState) (t : WebState) (e : Event) (log : List LogEntry)
    (was : slice_get ms i ≡ Some m) (its : client_in e ≡ Some (suc i)) where
  its_place : client_of e ≡ suc i
  its_place = its_client e (suc i) its

  member_there : member_of (client_of e) ms ≡ Some m
  member_there = subst (λ c. member_of c ms ≡ Some m) (sym its_place) was

  steps_turn : (now : List LogEntry) → StepsTurn log e (turn_at s m) (turn_at t n) now → Steps (data_with s ms log) e (data_with t (set ms i n) now)
  steps_turn now steps = record {
    reply = steps.reply;
    step = as_step e (suc i) log steps.reply (state_with s ms) (state_with t (set ms i n)) its (record {
      member = m;
      after = n;
      was = member_there;
      now = subst (λ c. set ms i n ≡ with_member c n ms) (sym its_place) refl;
      does = steps.does;
    });
    log = steps.entered;
  }

  same_world : turn_at t n ≡ turn_at s m → data_with t (set ms i n) log ≡ data_with s ms log
  same_world same =
      let shared : t ≡ s = ap (λ (u : Turn). u.shared) same in
      let member : n ≡ m = ap (λ (u : Turn). u.member) same in
      same_data t s (set ms i n) ms log shared (ap (λ x. set ms i x) member ∙ set_same ms i m was)

  costs_world : (cost : ℕ) → CostsTurn e m cost → Costs (state_with s ms) e cost
  costs_world _ turn_one = one
  costs_world _ (turn_listing c items lists lasts are few) = listing items (record {
    client = c;
    member = m;
    lists = lists;
    was = subst (λ d. member_of (client_of d) ms ≡ Some m) lists member_there;
    lasts = lasts;
    are = are;
    few = few;
  })

  stops_turn : (why : Stop) → StopsTurn log e why (turn_at s m) (turn_at t n) → Stops (data_with s ms log) e why (data_with t (set ms i n) log)
  stops_turn stop.NoClient stops = absurd stops
  stops_turn stop.LogFull (full, same) = (
    is_there e (state_with s ms) m member_there,
    record { cost = full.cost; costs = costs_world full.cost full.costs; passes = full.passes },
    same_world same,
  )
  stops_turn stop.FolderFault (room, is, (fails, counted), same) = (
    room,
    record {
      client = suc i;
      lists = list_of e (suc i) its is;
      unlisted = record {
        counted = record {
          member = m;
          was = was;
          now = same_state t s (set ms i n) (set ms i (record m { due = after_one m.due })) same (ap (λ x. set ms i x) counted);
        };
        fails = fails;
      };
      log = refl;
    },
  )
  stops_turn (stop.TooLong k) (room, is, lasts, more, same) =
      (room, record { client = suc i; member = m; lists = list_of e (suc i) its is; was = was; lasts = lasts; more = more }, same_world same)
  stops_turn stop.Memory same = same_world same

-- A STEP OF WHAT ALL SHARE
module _ (s t : WebState) (ms : List MemberState) (e : Event) (log : List LogEntry) where
  steps_shared : (now : List LogEntry) → SharesStep log e s t now → Steps (data_with s ms log) e (data_with t ms now)
  steps_shared now shares = record {
    reply = reply.Web shares.answer;
    step = subst (λ d. IsStep log (state_with s ms) d (reply.Web shares.answer) (state_with t ms)) (sym shares.is)
        (shares.edits.0, shares.edits.1, refl, shares.edits.2);
    log = shares.entered;
  }

  stops_shared : (why : Stop) → client_in e ≡ None → StopsShared log why → t ≡ s → Stops (data_with s ms log) e why (data_with t ms log)
  stops_shared stop.NoClient none stops same = absurd stops
  stops_shared stop.LogFull none stops same =
      (is_of_web e (state_with s ms) none, record { cost = 1; costs = one; passes = stops }, same_data t s ms ms log same refl)
  stops_shared stop.FolderFault none stops same = absurd stops
  stops_shared (stop.TooLong n) none stops same = absurd stops
  stops_shared stop.Memory none stops same = same_data t s ms ms log same refl

-- WHERE THE LOG LEADS
pub reaches_steps : (w v : WorldData) (e : Event) → Reaches w.log w.now → Steps w e v → Reaches v.log v.now
reaches_steps w v e reaches steps = subst (λ log. Reaches log v.now) (sym steps.log) (stepped w.log w.now e steps.reply v.now reaches steps.step)

reaches_same : (w v : WorldData) → Reaches w.log w.now → v ≡ w → Reaches v.log v.now
reaches_same w v reaches same = subst (λ (d : WorldData). Reaches d.log d.now) (sym same) reaches

pub reaches_stops : (w v : WorldData) (e : Event) (why : Stop) → Reaches w.log w.now → Stops w e why v → Reaches v.log v.now
reaches_stops w v e stop.NoClient reaches (none, same) = reaches_same w v reaches same
reaches_stops w v e stop.LogFull reaches (is, full, same) = reaches_same w v reaches same
reaches_stops w v e stop.FolderFault reaches (room, fails) =
    subst (λ log. Reaches log v.now) (sym fails.log) (unlisted w.log w.now fails.client v.now reaches fails.unlisted)
reaches_stops w v e (stop.TooLong n) reaches (room, more, same) = reaches_same w v reaches same
reaches_stops w v e stop.Memory reaches same = reaches_same w v reaches same

pub reaches_either : (w v : WorldData) (e : Event) (r : Result (Unit {0}) Stop) → Reaches w.log w.now → OnOk r (Steps w e v) → IfErr r (λ why. Stops w e why v)
    → Reaches v.log v.now
reaches_either w v e (Ok u) reaches steps stops = reaches_steps w v e reaches steps
reaches_either w v e (Err why) reaches steps stops = reaches_stops w v e why reaches stops

-- THE MEMBERS IN CODE
module _ {M : Type 0} (f : M → MemberState) (ms : List M) (i c : ℕ) (m n : M) (s t : WebState) (e : Event) (log now : List LogEntry)
    (its : client_in e ≡ Some c) (is : c ≡ i + 1) (below : i < length ms) (at : m ≡ get_or ms i m) where
  its_suc : client_in e ≡ Some (suc i)
  its_suc = let same : c ≡ suc i = omega (arith, is) in subst (λ d. client_in e ≡ Some d) same its

  is_at : slice_get (map f ms) i ≡ Some (f m)
  is_at = slice_get-map f ms i ∙ ap (option_map f) (slice_get_read ms (length ms) i m refl below at)

  member_steps : StepsTurn log e (turn_at s (f m)) (turn_at t (f n)) now → Steps (data_with s (map f ms) log) e (data_with t (map f (set ms i n)) now)
  member_steps steps = subst (λ ns. Steps (data_with s (map f ms) log) e (data_with t ns now)) (sym (map-set f ms i n))
      (steps_turn s (map f ms) i (f m) (f n) t e log is_at its_suc now steps)

  member_stops : (why : Stop) → StopsTurn log e why (turn_at s (f m)) (turn_at t (f n)) × (now ≡ log)
      → Stops (data_with s (map f ms) log) e why (data_with t (map f (set ms i n)) now)
  member_stops why stops = subst (λ ns. Stops (data_with s (map f ms) log) e why (data_with t ns now)) (sym (map-set f ms i n))
      (subst (λ l. Stops (data_with s (map f ms) log) e why (data_with t (set (map f ms) i (f n)) l)) (sym stops.1)
      (stops_turn s (map f ms) i (f m) (f n) t e log is_at its_suc why stops.0))

  pub either_steps : (r : Result (Unit {0}) Stop) → OnOk r (StepsTurn log e (turn_at s (f m)) (turn_at t (f n)) now)
      → OnOk r (Steps (data_with s (map f ms) log) e (data_with t (map f (set ms i n)) now))
  either_steps (Ok u) steps = member_steps steps
  either_steps (Err why) steps = tt

  pub either_stops : (r : Result (Unit {0}) Stop) → IfErr r (λ why. StopsTurn log e why (turn_at s (f m)) (turn_at t (f n)) × (now ≡ log))
      → IfErr r (λ why. Stops (data_with s (map f ms) log) e why (data_with t (map f (set ms i n)) now))
  either_stops (Ok u) stops = tt
  either_stops (Err why) stops = member_stops why stops

-- the same of what is shared
module _ (s t : WebState) (ms : List MemberState) (e : Event) (log now : List LogEntry) where
  pub shared_steps : (r : Result (Unit {0}) Stop) → OnOk r (SharesStep log e s t now) → OnOk r (Steps (data_with s ms log) e (data_with t ms now))
  shared_steps (Ok u) shares = steps_shared s t ms e log now shares
  shared_steps (Err why) shares = tt

  pub shared_stops : (r : Result (Unit {0}) Stop) → client_in e ≡ None → IfErr r (λ why. StopsShared log why × (t ≡ s) × (now ≡ log))
      → IfErr r (λ why. Stops (data_with s ms log) e why (data_with t ms now))
  shared_stops (Ok u) none stops = tt
  shared_stops (Err why) none stops = subst (λ l. Stops (data_with s ms log) e why (data_with t ms l)) (sym stops.2)
      (stops_shared s t ms e log why none stops.0 stops.1)
