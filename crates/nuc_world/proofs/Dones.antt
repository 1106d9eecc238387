-- A Done keeps a member.
use Rattle.std.specs.Prelude.{All}
use Rattle.std.proofs.Common.{◌≡◌, ◌<◌, ◌==◌, ℕ, Bool, true, false, cond, List, [], ◌∷◌, Option, Some, None, refl, sym, ◌∙◌, ap, subst, inl, inr, arith}
use Rattle.std.proofs.lemmas.List.{append-nil}
use Rattle.std.specs.FinMap.{get, insert, remove}
use Rattle.nuc_base.specs.declared.change.Change.{Change}
use Rattle.nuc_base.specs.declared.change.Change.TheVariants.{Keep, Put, Cut}
use Rattle.nuc_base.specs.declared.node.Kind.{Kind}
use Rattle.nuc_base.specs.declared.node.Node.{Node}
use Rattle.nuc_class.specs.declared.op.Op.{Op}
use Rattle.nuc_edits.specs.Edits.{IsNext, Recorded, WasPut}
use Rattle.nuc_flights.specs.Flights.{Flight, Stage, flight_of, planned, started, taken}
use Rattle.nuc_flights.specs.declared.taken.Taken.{Taken}
use Rattle.nuc_flights.specs.declared.taken.Taken.TheVariants as came
use Rattle.nuc_folder.specs.declared.outcome.Outcome.{Outcome}
use Rattle.nuc_folder.specs.declared.outcome.Outcome.TheVariants as outcome
use Rattle.nuc_journal.specs.declared.entry.Entry.{Entry}
use Rattle.nuc_lookup.proofs.Maps as numbers
use Rattle.nuc_observe.specs.Keys.{KeyMap}
use Rattle.nuc_replica.specs.Following.{IsAt}
use Rattle.nuc_replica.specs.Local.{moved_key}
use Rattle.nuc_replica.specs.Remote.{RemoteState}
use Rattle.nuc_replica.proofs.Journaled.{at_caught_up}
use Rattle.nuc_server.specs.WebEdits.{WebState}
use Rattle.nuc_step.specs.Client.{ClientState}
use Rattle.nuc_step.specs.Holdings.{EntryBrings}
use Rattle.nuc_step.specs.Steps.{Ends, EndsAt, EndsOf, IsDone, NothingToEnd, caught_up_to, finished, is_split, keys_after, keys_with, landed, reason_of}
use Rattle.nuc_step.specs.declared.reason.Reason.{Reason}
use Rattle.nuc_step.specs.declared.reply.DoneReply.{DoneReply}
use Rattle.nuc_step.specs.declared.reply.DoneReply.TheVariants as done
use Rattle.nuc_step.proofs.Bringing.{steps_bring_nothing_else}
use Rattle.nuc_step.proofs.Outcomes.{Came, came_of}
use Rattle.nuc_step.proofs.Outcomes.Came.{applied, dropped, nothing}
use Rattle.nuc_step.proofs.Steady.{steps_keep}
use Rattle.nuc_world.specs.Form.{AreGiven, CanFly, IsKnown, IsMadeBelow, IsMember, IsShared, IsStageBelow, IsTakenBelow}
use Rattle.nuc_world.specs.Starts.{with_client}
use Rattle.nuc_world.specs.State.{MemberState, Turn}
use Rattle.nuc_world.specs.Step.{Dones}
use Rattle.nuc_world.proofs.Grown.{Grows, Passes, Turned, known_grown, member_grown}
use Rattle.nuc_world.proofs.Items.{all_first, all_map, all_rest}
use Rattle.nuc_world.proofs.Later.{all_without}

-- KEYS that were given, after a change of the map
module _ (next : ℕ) (keys : KeyMap) (given : AreGiven keys next) where
  given_cut : (x : ℕ) → AreGiven (remove keys x) next
  given_cut x y key at = elim (numbers.same_or_not y x) [
    | inl same ↦ absurd (let none = numbers.get_cut_same keys x in let here : get (remove keys x) x ≡ Some key = subst (λ z. get (remove keys x) z ≡ Some key) same at in cc)
    | inr apart ↦ given y key (sym (numbers.get_cut_other keys x y apart) ∙ at)
  ]

  given_put : (x key : ℕ) → key < next → AreGiven (insert keys x key) next
  given_put x key below y other at = elim (numbers.same_or_not y x) [
    | inl same ↦ (let put = numbers.get_put_same keys x key in let here : get (insert keys x key) x ≡ Some other = subst (λ z. get (insert keys x key) z ≡ Some other) same at in
        let one : key ≡ other = cc in subst (λ k. k < next) one below)
    | inr apart ↦ given y other (sym (numbers.get_put_other keys x key y apart) ∙ at)
  ]

  given_with : (old : Option Node) (c : Change) (o : Outcome) (x : ℕ) → IsMadeBelow next o → AreGiven (keys_with old c o x keys) next
  given_with None Keep o x below = given
  given_with (Some n) Keep o x below = given
  given_with None (Put n) (outcome.Made key) x below = given_put x key.0 below
  given_with None (Put n) outcome.Ok x below = given
  given_with None (Put n) outcome.Changed x below = given
  given_with None (Put n) outcome.Taken x below = given
  given_with None (Put n) outcome.NotEmpty x below = given
  given_with None (Put n) outcome.Failed x below = given
  given_with None (Put n) outcome.Memory x below = given
  given_with (Some m) (Put n) o x below = given
  given_with None Cut o x below = given_cut x
  given_with (Some n) Cut o x below = given_cut x

pub given_moved : (next : ℕ) (keys : KeyMap) → AreGiven keys next → (x z : ℕ) (key : Option ℕ) → get keys x ≡ key → AreGiven (moved_key keys x z key) next
given_moved next keys given x z None at = given_cut next keys given x
given_moved next keys given x z (Some key) at = given_put next (remove keys x) (given_cut next keys given x) z key (given x key at)

given_by : (next : ℕ) (keys : KeyMap) → AreGiven keys next → (op : Op) (o : Outcome) (split : Bool) → IsMadeBelow next o
    → AreGiven (cond split (moved_key keys op.id.0 op.other.0 (get keys op.id.0)) (keys_with op.old_local op.local o op.id.0 keys)) next
given_by next keys given op o true below = given_moved next keys given op.id.0 op.other.0 (get keys op.id.0) refl
given_by next keys given op o false below = given_with next keys given op.old_local op.local o op.id.0 below

pub given_after : (next : ℕ) (keys : KeyMap) → AreGiven keys next → (op : Op) (o : Outcome) → IsMadeBelow next o → AreGiven (keys_after op o keys) next
given_after next keys given op o below = given_by next keys given op o (is_split op.verb) below

-- WHAT IS RECORDED gets adoptions alone
module _ (n : ℕ) (op : Op) (c d : ClientState) (e f : Recorded) where
  none_edits : (r : DoneReply) → NothingToEnd c e r d f → f.edits ≡ e.edits
  none_edits done.NoSuchOp ends = ap (λ (g : Recorded). g.edits) ends.1
  none_edits done.Applied ends = absurd ends
  none_edits done.Stale ends = absurd ends
  none_edits (done.Dropped w) ends = absurd ends

  ends_edits : (t : Taken) (why : Option Reason) (r : DoneReply) → Ends n op t why c e r d f → f.edits ≡ e.edits
  ends_edits t None done.Applied ends = ap (λ (g : Recorded). g.edits) ends.2
  ends_edits t None done.Stale ends = ap (λ (g : Recorded). g.edits) ends.2
  ends_edits t None (done.Dropped w) ends = absurd ends
  ends_edits t None done.NoSuchOp ends = absurd ends
  ends_edits t (Some why) (done.Dropped w) ends = ap (λ (g : Recorded). g.edits) ends.2
  ends_edits t (Some why) done.Applied ends = absurd ends
  ends_edits t (Some why) done.Stale ends = absurd ends
  ends_edits t (Some why) done.NoSuchOp ends = absurd ends

  stage_edits : (stage : Stage) (r : DoneReply) → EndsAt n op stage c e r d f → f.edits ≡ e.edits
  stage_edits planned r ends = none_edits r ends
  stage_edits started r ends = none_edits r ends
  stage_edits (taken t) r ends = ends_edits t (reason_of t) r ends

flight_edits : (n : ℕ) (o : Option Flight) (c d : ClientState) (e f : Recorded) (r : DoneReply) → EndsOf n o c e r d f → f.edits ≡ e.edits
flight_edits n None c d e f done.NoSuchOp ends = ap (λ (g : Recorded). g.edits) ends.1
flight_edits n None c d e f done.Applied ends = absurd ends
flight_edits n None c d e f done.Stale ends = absurd ends
flight_edits n None c d e f (done.Dropped w) ends = absurd ends
flight_edits n (Some flight) c d e f r ends = stage_edits n flight.op c d e f flight.stage r ends

-- the edits are the same, and the next identity isn't less: all that was known is known
pub same_edits : (s : WebState) (f : Recorded) (kinds : ℕ → Kind) → IsShared s kinds → f.edits ≡ s.edits.edits → Passes s (record s { edits = f }) kinds
same_edits s f kinds shared same =
    let t : WebState = record s { edits = f } in
    let grows : Grows s t kinds kinds = record { kind = λ x below. refl; below = omega arith; put = λ v put. subst (λ es. WasPut es v) (sym same) put } in
    record {
      later = kinds;
      grows = grows;
      more = [];
      entries = sym (append-nil s.entries);
      shared = record {
        journal = shared.journal;
        next_id = shared.next_id;
        next_ver = subst (IsNext s.ids.next_ver) (sym same) shared.next_ver;
        entries = λ x k v. all_map (λ e. EntryBrings x k v e → IsKnown s kinds x k v) (λ e. EntryBrings x k v e → IsKnown t kinds x k v)
            (λ e known brings. known_grown s t kinds kinds grows x k v (known brings)) s.entries (shared.entries x k v);
      };
    }

-- THE CLIENT
pub flight_all : (P : Flight → Type 0) (n : ℕ) (fs : List Flight) (f : Flight) → flight_of n fs ≡ Some f → All P fs → P f
flight_all P n [] f there all = cc
flight_all P n (g ∷ fs) f there all = elim (g.op.number == n) as (λ b. cond b (Some g) (flight_of n fs) ≡ Some f → P f) [
  | true ↦ λ same. let it : g ≡ f = cc in subst P it (all_first P g fs all)
  | false ↦ λ later. flight_all P n fs f later (all_rest P g fs all)
] there

at_finished : (es : List Entry) (t : Taken) (r : RemoteState) → IsAt es r → IsAt es (caught_up_to t r)
at_finished es (came.Folder o) r at = at
at_finished es (came.Accepted rev) r at = at_caught_up es r rev at
at_finished es (came.Refused why) r at = at

landed_remote : (op : Op) (t : Taken) (c : ClientState) → (landed op t c).remote ≡ c.remote
landed_remote op (came.Folder o) c = refl
landed_remote op (came.Accepted rev) c = refl
landed_remote op (came.Refused why) c = refl

landed_flights : (op : Op) (t : Taken) (c : ClientState) → (landed op t c).flights ≡ c.flights
landed_flights op (came.Folder o) c = refl
landed_flights op (came.Accepted rev) c = refl
landed_flights op (came.Refused why) c = refl

landed_keys : (next : ℕ) (op : Op) (t : Taken) (c : ClientState) → IsTakenBelow next t → AreGiven c.local.keys next → AreGiven (landed op t c).local.keys next
landed_keys next op (came.Folder o) c below given = given_after next c.local.keys given op o below
landed_keys next op (came.Accepted rev) c below given = given
landed_keys next op (came.Refused why) c below given = given

-- the parts that a Done leaves sound
record Parts (es : List Entry) (next : ℕ) (d : ClientState) : Type 0 where
  at : IsAt es d.remote
  flights : All (λ f. CanFly f.op) d.flights
  keys : AreGiven d.local.keys next
  made : All (λ f. IsStageBelow next f.stage) d.flights

module _ (s : WebState) (kinds : ℕ → Kind) (m : MemberState) (member : IsMember s kinds m) (n : ℕ) where
  finished_parts : (t : Taken) → Parts s.entries m.folder.next (finished n t m.client)
  finished_parts t = record {
    at = at_finished s.entries t m.client.remote member.at;
    flights = all_without (λ f. CanFly f.op) n m.client.flights member.flights;
    keys = member.keys;
    made = all_without (λ f. IsStageBelow m.folder.next f.stage) n m.client.flights member.made;
  }

  landed_parts : (op : Op) (t : Taken) → IsTakenBelow m.folder.next t → Parts s.entries m.folder.next (landed op t (finished n t m.client))
  landed_parts op t below =
      let old = finished_parts t in
      record {
        at = subst (IsAt s.entries) (sym (landed_remote op t (finished n t m.client))) old.at;
        flights = subst (All (λ f. CanFly f.op)) (sym (landed_flights op t (finished n t m.client))) old.flights;
        keys = landed_keys m.folder.next op t (finished n t m.client) below old.keys;
        made = subst (All (λ f. IsStageBelow m.folder.next f.stage)) (sym (landed_flights op t (finished n t m.client))) old.made;
      }

  came_parts : (d : ClientState) (o : Option Flight) → flight_of n m.client.flights ≡ o → Came n m.client d o → Parts s.entries m.folder.next d
  came_parts d o there (nothing p same) = subst (Parts s.entries m.folder.next) (sym same) (record { at = member.at; flights = member.flights; keys = member.keys; made = member.made })
  came_parts d o there (dropped flight t stage same) = subst (Parts s.entries m.folder.next) (sym same) (finished_parts t)
  came_parts d o there (applied flight t stage why can same) =
      let below : IsTakenBelow m.folder.next t =
      subst (IsStageBelow m.folder.next) stage (flight_all (λ f. IsStageBelow m.folder.next f.stage) n m.client.flights flight there member.made) in
      subst (Parts s.entries m.folder.next) (sym same) (landed_parts flight.op t below)

  done_member : (d : ClientState) (e f : Recorded) (r : DoneReply) → IsDone n m.client e r d f → IsMember s kinds (with_client d m)
  done_member d e f r ends =
      let parts = came_parts d (flight_of n m.client.flights) refl (came_of n m.client d e f r ends) in
      record {
        client = (steps_keep m.client member.client).done n d e f r ends;
        at = parts.at;
        holds = λ x k v held. member.holds x k v ((steps_bring_nothing_else m.client).done n d e f r x k v ends held);
        flights = parts.flights;
        keys = parts.keys;
        made = parts.made;
        given = member.given;
      }

pub done_turns : (n : ℕ) (answer : DoneReply) (t u : Turn) (kinds : ℕ → Kind) → IsShared t.shared kinds → IsMember t.shared kinds t.member → Dones n answer t u
    → Turned t u kinds
unfolding same_edits
done_turns n answer t u kinds shared member (ends, now) =
    let passes = same_edits t.shared u.shared.edits kinds shared (flight_edits n (flight_of n t.member.client.flights) t.member.client u.member.client t.shared.edits u.shared.edits answer ends) in
    subst (λ (v : Turn). Turned t v kinds) (sym now) (record {
      passes = passes;
      member = member_grown t.shared (record t.shared { edits = u.shared.edits }) kinds passes (with_client u.member.client t.member)
          (done_member t.shared kinds t.member member n u.member.client t.shared.edits u.shared.edits answer ends);
    })
