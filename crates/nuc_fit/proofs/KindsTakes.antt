-- A Take keeps to the kinds of the keys: a commit makes nothing in the folder, and what the folder makes has a new key.
use Rattle.std.specs.Prelude.{All, is_some}
use Rattle.std.proofs.Common.{◌≡◌, ℕ, Bool, true, false, List, [], Option, Some, None, refl, sym, ap, subst}
use Rattle.std.specs.Option.{unwrap_or}
use Rattle.nuc_base.specs.declared.change.Change.{Change}
use Rattle.nuc_base.specs.declared.node.Kind.{Kind}
use Rattle.nuc_class.specs.declared.op.Op.{Op}
use Rattle.nuc_flights.specs.Flights.{Flight, Stage, flight_of, planned, started, taken}
use Rattle.nuc_flights.specs.declared.taken.Taken.{Taken}
use Rattle.nuc_flights.specs.declared.taken.Taken.TheVariants as came
use Rattle.nuc_folder.specs.declared.outcome.Outcome.TheVariants as outcome
use Rattle.nuc_folder.specs.declared.ran.RanOp.{RanOp}
use Rattle.nuc_hash.specs.Content.{content_of}
use Rattle.nuc_journal.specs.declared.entry.Entry.{Entry}
use Rattle.nuc_log.specs.declared.log.LogEntry.{LogEntry}
use Rattle.nuc_log.specs.declared.reply.TakeReply.{TakeReply}
use Rattle.nuc_log.specs.declared.reply.TakeReply.TheVariants as answer
use Rattle.nuc_server.specs.declared.commit.Commit.{Commit}
use Rattle.nuc_step.specs.Stages.{if_started, started_of}
use Rattle.nuc_step.specs.Steps.{after_take}
use Rattle.nuc_world.specs.Form.{IsMember}
use Rattle.nuc_world.specs.Starts.{is_upload}
use Rattle.nuc_world.specs.State.{MemberState, Turn}
use Rattle.nuc_world.specs.Takes.{CarriesOut, Commits, CommitsBytes, CommitsRead, IsCarriedOut, IsJudged, IsOutdated, Takes, TakesBy, TakesOf, bytes_for, commit_of, is_commit, is_recorded, read_in, seen_content, stored, told, view_of, wanted_content}
use Rattle.nuc_world.proofs.Beside.{op_keeps}
use Rattle.nuc_fit.proofs.KindsForm.{IsFlightOf, IsNoticeOf, IsTakenOf, Kinds}
use Rattle.nuc_fit.proofs.KindsMember.{AreAlike, HasKinds, OfClient, all_staged, client_alike, flight_all, flights_later, listed_later, named_later, notices_later, one_staged}
use Rattle.nuc_fit.proofs.KindsRuns.{OpRan, op_ran}

-- TAKEN so that nothing was made, whichever the operation is
pub over_of : (kinds : Kinds) (n : ℕ) (t : Taken) (news : List Entry) (m : MemberState) → ((c : Change) → IsTakenOf kinds c t) → AreAlike kinds m
    → OfClient kinds (after_take n t news m.client)
over_of kinds n t news m none are = record {
  local = are.local;
  flights = all_staged (IsFlightOf kinds) n (taken t) (λ f its. record { copy = its.copy; stage = none f.op.local }) m.client.flights are.flights;
}

-- AT THE SERVER
module _ (kinds : Kinds) (n : ℕ) where
  told_alike : (m u : MemberState) (t : Taken) (news : List Entry) → u ≡ told n t news m → ((c : Change) → IsTakenOf kinds c t) → AreAlike kinds m → HasKinds u
  told_alike m u t news now none are =
      record { kinds = kinds; are = client_alike kinds m u (after_take n t news m.client) now (over_of kinds n t news m none are) are }

  judged : (c : ℕ) (k : Commit) (t : Turn) (a : TakeReply) (u : Turn) → IsJudged c n k t a u → AreAlike kinds t.member → HasKinds u.member
  judged c k t (answer.Accepted rev) u (accepted, now) are = told_alike t.member u.member (came.Accepted rev) _ (ap (λ (v : Turn). v.member) now) (λ ch. tt) are
  judged c k t (answer.Refused why) u (refused, now) are = told_alike t.member u.member (came.Refused why) [] (ap (λ (v : Turn). v.member) now) (λ ch. tt) are
  judged c k t (answer.Folder ran) u is are = absurd is
  judged c k t answer.NoSuchOp u is are = absurd is

  outdated : (t : Turn) (a : TakeReply) (u : Turn) → IsOutdated n t a u → AreAlike kinds t.member → HasKinds u.member
  outdated t a u (is, now) are = told_alike t.member u.member (came.Folder outcome.Changed) [] (ap (λ (v : Turn). v.member) now) (λ ch. tt) are

  by_bytes : (c : ℕ) (k : Commit) (bytes : List ℕ) (same : Bool) (t : Turn) (a : TakeReply) (u : Turn) → CommitsBytes c n k bytes same t a u → AreAlike kinds t.member → HasKinds u.member
  by_bytes c k bytes true t a u is are = judged c k (stored bytes t) a u is are
  by_bytes c k bytes false t a u is are = outdated t a u is are

  by_read : (c : ℕ) (k : Commit) (read : Option (List ℕ)) (t : Turn) (a : TakeReply) (u : Turn) → CommitsRead c n k read t a u → AreAlike kinds t.member → HasKinds u.member
  by_read c k None t a u is are = outdated t a u is are
  by_read c k (Some bytes) t a u is are = by_bytes c k bytes (is_recorded t.shared.edits.edits (content_of bytes).hash k.value) t a u is are

  by_upload : (log : List LogEntry) (c : ℕ) (k : Commit) (upload : Bool) (t : Turn) (a : TakeReply) (u : Turn) → Commits log c n k upload t a u → AreAlike kinds t.member → HasKinds u.member
  by_upload log c k true t a u is are = by_read c k (read_in c n log) t a u is are
  by_upload log c k false t a u is are = judged c k t a u is are

-- IN THE FOLDER. Which operation it is
record IsFlown (n : ℕ) (fs : List Flight) (op : Op) : Type 0 where
  flight : Flight
  there : flight_of n fs ≡ Some flight
  is : flight.op ≡ op

stage_op : (stage : Stage) (op other : Op) → if_started stage op ≡ Some other → op ≡ other
stage_op planned op other is = cc
stage_op started op other is = let same : op ≡ other = cc in same
stage_op (taken t) op other is = cc

flown : (n : ℕ) (fs : List Flight) (o : Option Flight) (op : Op) → flight_of n fs ≡ o → started_of o ≡ Some op → IsFlown n fs op
flown n fs None op there is = cc
flown n fs (Some f) op there is = record { flight = f; there = there; is = stage_op f.stage f.op op is }

module _ (kinds : Kinds) (n : ℕ) (op : Op) (t : Turn) (all : ℕ → Kind) (member : IsMember t.shared all t.member) (are : AreAlike kinds t.member)
    (of : IsFlown n t.member.client.flights op) where
  carried : (ran : RanOp) (u : Turn) → IsCarriedOut n op t ran u → HasKinds u.member
  carried ran u out =
      let m = t.member in
      let keys = m.client.local.keys in
      let bytes = unwrap_or (bytes_for t.shared op) [] in
      let v = view_of out.faults out.made out.settled m in
      let w = view_of out.faults_after out.made out.settled u.member in
      let its : OpRan kinds op.local v.next w ran.outcome = op_ran kinds keys bytes op v ran w (seen_content t.shared.edits.edits op) (wanted_content t.shared.edits.edits op)
      (is_some (bytes_for t.shared op)) are.held member.given.held out.runs in
      let kept = op_keeps keys bytes _ v ran w out.runs in
      let fs = flights_later m.folder.next kinds its.later its.agree m.client.flights member.made are.flights in
      let copy = (flight_all (IsFlightOf its.later) n m.client.flights of.flight of.there fs).copy in
      record {
        kinds = its.later;
        are = subst (AreAlike its.later) (sym out.member) (record {
          held = its.held;
          pending = subst (All (IsNoticeOf its.later)) (sym kept.pending) (notices_later m.folder.next kinds its.later its.agree m.folder.pending member.given.pending are.pending);
          listed = listed_later m.folder.next kinds its.later its.agree m.listing member.given.listed are.listed;
          local = named_later m.folder.next kinds its.later its.agree m.client.local member.keys are.local;
          flights = one_staged (IsFlightOf its.later) n (taken (came.Folder ran.outcome)) of.flight m.client.flights of.there
              (record { copy = copy; stage = subst (λ (o : Op). IsTakenOf its.later o.local (came.Folder ran.outcome)) (sym of.is) its.made }) fs;
        });
      }

  carries : (a : TakeReply) (u : Turn) → CarriesOut n op t a u → HasKinds u.member
  carries (answer.Folder ran) u out = carried ran u out
  carries (answer.Accepted rev) u is = absurd is
  carries (answer.Refused why) u is = absurd is
  carries answer.NoSuchOp u is = absurd is

  by_effect : (log : List LogEntry) (c : ℕ) (commit : Bool) (a : TakeReply) (u : Turn) → TakesBy log c n op commit t a u → HasKinds u.member
  by_effect log c true a u is = by_upload kinds n log c (commit_of op) (is_upload op) t a u is are
  by_effect log c false a u is = carries a u is

module _ (kinds : Kinds) (t : Turn) (all : ℕ → Kind) (member : IsMember t.shared all t.member) (are : AreAlike kinds t.member) where
  by_flight : (log : List LogEntry) (c n : ℕ) (o : Option Op) (a : TakeReply) (u : Turn) → started_of (flight_of n t.member.client.flights) ≡ o → TakesOf log c n o t a u
      → HasKinds u.member
  by_flight log c n None a u there (is, now) = subst HasKinds (sym (ap (λ (v : Turn). v.member) now)) (record { kinds = kinds; are = are })
  by_flight log c n (Some op) a u there is =
      by_effect kinds n op t all member are (flown n t.member.client.flights (flight_of n t.member.client.flights) op refl there) log c (is_commit op.effect) a u is

  pub take_kinds : (log : List LogEntry) (c n : ℕ) (a : TakeReply) (u : Turn) → Takes log c n t a u → HasKinds u.member
  take_kinds log c n a u is = by_flight log c n (started_of (flight_of n t.member.client.flights)) a u refl is
