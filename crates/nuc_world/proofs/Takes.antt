-- A Take keeps a member: a commit that the server judges, or calls in the folder.
use Rattle.std.specs.Prelude.{All, Any, IfSome}
use Rattle.std.proofs.Common.{◌≡◌, ◌<◌, ◌+◌, ◌==◌, ◌++◌, ℕ, suc, true, false, cond, List, [], ◌∷◌, length, take, drop, Option, Some, None, refl, sym, ◌∙◌, ap, subst, arith}
use Rattle.std.proofs.lemmas.List.{length-append, length-drop}
use Rattle.nuc_base.specs.declared.change.Change.{Change}
use Rattle.nuc_base.specs.declared.change.Change.TheVariants.{Keep, Put, Cut}
use Rattle.nuc_base.specs.declared.node.Kind.{Kind}
use Rattle.nuc_base.specs.declared.node.Node.{Node}
use Rattle.nuc_blocks.specs.Blocks.{Blocks}
use Rattle.nuc_class.specs.declared.op.Op.{Op}
use Rattle.nuc_flights.specs.Flights.{Flight, Stage, flight_of, planned, started, taken}
use Rattle.nuc_flights.specs.declared.taken.Taken.{Taken}
use Rattle.nuc_flights.specs.declared.taken.Taken.TheVariants as came
use Rattle.nuc_folder.specs.declared.outcome.Outcome.TheVariants as outcome
use Rattle.nuc_hash.specs.declared.digest.Digest.{Digest}
use Rattle.nuc_journal.specs.Entries.{tree_of}
use Rattle.nuc_journal.specs.Journal.{IsJournal, IsLegalValue}
use Rattle.nuc_journal.specs.declared.entry.Entry.{Entry}
use Rattle.nuc_journal.proofs.Journals.{journal_push}
use Rattle.nuc_journal.proofs.Lists.{take_all}
use Rattle.nuc_replica.specs.Following.{IsAt, next_entries}
use Rattle.nuc_replica.specs.Remote.{Follows, heard}
use Rattle.nuc_replica.proofs.Journaled.{at_heard, next_entries_follow}
use Rattle.nuc_server.specs.Judge.{IsAccepted, next_entry}
use Rattle.nuc_server.specs.WebEdits.{WebState}
use Rattle.nuc_step.specs.Calls.{MayBeTaken}
use Rattle.nuc_step.specs.Holdings.{EntryBrings, IsOf, OpHolds, Puts}
use Rattle.nuc_step.specs.Holdings.Holds.{flight as in_flight}
use Rattle.nuc_step.specs.Holdings.OpHolds.{remote as puts_remote}
use Rattle.nuc_step.specs.Sound.{IsFlight, MayFly, known_to}
use Rattle.nuc_step.specs.Stages.{if_started, started_of}
use Rattle.nuc_step.proofs.Bringing.{steps_bring_nothing_else}
use Rattle.nuc_step.proofs.Steady.{steps_keep}
use Rattle.nuc_world.specs.Form.{CanFly, IsKnown, IsMember, IsShared, IsStageBelow, IsTakenBelow}
use Rattle.nuc_world.specs.State.{MemberState}
use Rattle.nuc_world.specs.Takes.{commit_of, committed, told}
use Rattle.nuc_world.proofs.Dones.{flight_all}
use Rattle.nuc_world.proofs.Entered.{entry_passes, stands_known}
use Rattle.nuc_world.proofs.Grown.{Grows, Passes, known_grown, member_grown}
use Rattle.nuc_world.proofs.Items.{all_drop, all_map, all_take}
use Rattle.nuc_world.proofs.Later.{all_staged}
use Rattle.nuc_world.proofs.Quiet.{brought_known, taken_member}

-- WHICH OPERATION it is
pub record IsFlown (n : ℕ) (fs : List Flight) (op : Op) : Type 0 where
  pub flight : Flight
  pub there : flight_of n fs ≡ Some flight
  pub is : flight.op ≡ op

stage_op : (stage : Stage) (op other : Op) → if_started stage op ≡ Some other → op ≡ other
stage_op planned op other is = cc
stage_op started op other is = let same : op ≡ other = cc in same
stage_op (taken t) op other is = cc

pub flown : (n : ℕ) (fs : List Flight) (o : Option Flight) (op : Op) → flight_of n fs ≡ o → started_of o ≡ Some op → IsFlown n fs op
flown n fs None op there is = cc
flown n fs (Some f) op there is = record { flight = f; there = there; is = stage_op f.stage f.op op is }

pub op_all : (P : Op → Type 0) (n : ℕ) (fs : List Flight) (op : Op) → IsFlown n fs op → All (λ f. P f.op) fs → P op
op_all P n fs op of all = subst P of.is (flight_all (λ f. P f.op) n fs of.flight of.there all)

flight_some : (P : Flight → Type 0) (n : ℕ) (fs : List Flight) (f : Flight) → flight_of n fs ≡ Some f → P f → Any P fs
flight_some P n [] f there its = cc
flight_some P n (g ∷ fs) f there its = elim (g.op.number == n) as (λ b. cond b (Some g) (flight_of n fs) ≡ Some f → Any P (g ∷ fs)) [
  | true ↦ λ same. let it : g ≡ f = cc in (0, g, omega arith, refl, subst P (sym it) its)
  | false ↦ λ later. let (k, y, below, at, has) = flight_some P n fs f later its in (suc k, y, omega (arith, below), at, has)
] there

op_some : (P : Op → Type 0) (n : ℕ) (fs : List Flight) (op : Op) → IsFlown n fs op → P op → Any (λ f. P f.op) fs
op_some P n fs op of its = flight_some (λ f. P f.op) n fs of.flight of.there (subst P (sym of.is) its)

-- whatever holds of the operation under the number holds of the flight that is found
pub flown_if : (P : Flight → Type 0) (n : ℕ) (fs : List Flight) (op : Op) → IsFlown n fs op → ((f : Flight) → f.op ≡ op → P f) → IfSome (flight_of n fs) P
flown_if P n fs op of each = subst (λ o. IfSome o P) (sym of.there) (each of.flight of.is)

-- WHAT A COMMIT PUTS
puts_of : (c : Change) (n : Node) → committed c ≡ Some n → Puts n.kind n.ver.0 c
puts_of Keep n is = cc
puts_of (Put h) n is = let same : h ≡ n = cc in subst (λ (g : Node). (h.kind ≡ g.kind) × (h.ver.0 ≡ g.ver.0)) same (refl, refl)
puts_of Cut n is = cc

puts_by : (c : Change) (k : Kind) (v : ℕ) → IsOf k v (committed c) → Puts k v c
puts_by Keep k v is = absurd is
puts_by (Put n) k v is = is
puts_by Cut k v is = absurd is

-- A TAKE WITH NEWS, which are next entries
module _ (s : WebState) (kinds : ℕ → Kind) (shared : IsShared s kinds) (m : MemberState) (member : IsMember s kinds m) (n i : ℕ) (t : Taken) (news : List Entry)
    (next : news ≡ next_entries s.entries m.client.remote i) (may : IfSome (flight_of n m.client.flights) (MayBeTaken m.client.remote news t))
    (below : IsTakenBelow m.folder.next t) where
  told_member : IsMember s kinds (told n t news m)
  told_member = record {
    client = (steps_keep m.client member.client).take n t news
        (subst (Follows m.client.remote) (sym next) (next_entries_follow s.entries m.client.remote i shared.journal member.at)) may;
    at = subst (λ es. IsAt s.entries (heard es m.client.remote)) (sym next) (at_heard s.entries m.client.remote i member.at);
    holds = λ x k v held. brought_known s kinds shared m.client news x k v member.holds
        (subst (All (λ e. EntryBrings x k v e → IsKnown s kinds x k v)) (sym next)
        (all_take (λ e. EntryBrings x k v e → IsKnown s kinds x k v) i _ (all_drop (λ e. EntryBrings x k v e → IsKnown s kinds x k v) m.client.remote.cursor s.entries (shared.entries x k v))))
        ((steps_bring_nothing_else m.client).take n t news x k v held);
    flights = all_staged (λ f. CanFly f.op) n (taken t) (λ f can. can) m.client.flights member.flights;
    keys = member.keys;
    made = all_staged (λ f. IsStageBelow m.folder.next f.stage) n (taken t) (λ f was. below) m.client.flights member.made;
    given = member.given;
  }

-- JUDGED by the server
module _ (s : WebState) (kinds : ℕ → Kind) (shared : IsShared s kinds) (m : MemberState) (member : IsMember s kinds m) (n : ℕ) (op : Op)
    (of : IsFlown n m.client.flights op) where
  held_known : (x : ℕ) (k : Kind) (v : ℕ) → op.id.0 ≡ x → Puts k v op.remote → IsKnown s kinds x k v
  held_known x k v id puts = member.holds x k v (in_flight (op_some (OpHolds x k v) n m.client.flights op of (puts_remote id puts)))

  id_below : (value : Option Node) → committed op.remote ≡ value → IsLegalValue (tree_of s.entries) op.id.0 value → op.id.0 < s.ids.next_id
  id_below (Some h) is legal = (held_known op.id.0 h.kind h.ver.0 refl (puts_of op.remote h is)).below
  id_below None is legal = let there = legal.there in (stands_known s kinds shared op.id.0 there.0 there.1).below

  module _ (c : ℕ) (blocks : Blocks) (digests : List Digest) (accepted : IsAccepted s.entries blocks (commit_of op) digests) (now : List Entry)
      (is : now ≡ s.entries ++ next_entry s.entries op.id.0 (committed op.remote) c ∷ []) where
    abbrev pub after : WebState
    after = record s { entries = now }

    accepted_grows : Grows s after kinds kinds
    accepted_grows = record { kind = λ x below. refl; below = omega arith; put = λ v was. was }

    pub accepted_passes : Passes s after kinds
    accepted_passes = entry_passes s after kinds kinds shared accepted_grows (next_entry s.entries op.id.0 (committed op.remote) c) is
        (subst IsJournal (sym is) (journal_push s.entries _ shared.journal (record {
          rev = refl;
          id = (op_all MayFly n m.client.flights op of (all_map (IsFlight (known_to m.client.remote)) (λ f. MayFly f.op) (λ f may. may.op) m.client.flights member.client.flights)).id;
          kind = accepted.kind;
          legal = accepted.legal;
        })))
        (id_below (committed op.remote) refl accepted.legal) shared.next_ver
        (λ x k v brings. known_grown s after kinds kinds accepted_grows x k v (held_known x k v brings.0 (puts_by op.remote k v brings.1)))

    pub accepted_member : (rev : ℕ) → rev ≡ length s.entries + 1
        → IsMember after (accepted_passes.later) (told n (came.Accepted rev) (drop m.client.remote.cursor now) m)
    accepted_member rev last =
        let news = drop m.client.remote.cursor now in
        let grown = member_grown s after kinds accepted_passes m member in
        let size = length-drop m.client.remote.cursor now in
        let all : take (length now) news ≡ news = take_all (length now) news (omega (arith, size)) in
        let within = member.at.within in
        let longer : length now ≡ length s.entries + 1 = ap length is ∙ length-append s.entries _ in
        told_member after accepted_passes.later accepted_passes.shared m grown n (length now) (came.Accepted rev) news (sym all)
        (flown_if (MayBeTaken m.client.remote news (came.Accepted rev)) n m.client.flights op of (λ f same. omega (arith, last, size, within, longer))) tt

  pub refused_member : (why : _) → IsMember s kinds (told n (came.Refused why) [] m)
  refused_member why = taken_member s kinds m member n (came.Refused why)
      (flown_if (MayBeTaken m.client.remote [] (came.Refused why)) n m.client.flights op of (λ f same. tt)) tt

  pub outdated_member : IsMember s kinds (told n (came.Folder outcome.Changed) [] m)
  outdated_member = taken_member s kinds m member n (came.Folder outcome.Changed)
      (flown_if (MayBeTaken m.client.remote [] (came.Folder outcome.Changed)) n m.client.flights op of (λ f same. tt)) tt
