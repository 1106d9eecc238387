-- Each way in which a Take goes.
use Rattle.std.specs.Prelude.{All, is_some}
use Rattle.std.proofs.Common.{◌≡◌, ◌≤◌, ◌++◌, ℕ, Bool, true, false, List, [], Option, Some, None, refl, sym, ◌∙◌, ap, subst, arith}
use Rattle.std.proofs.lemmas.List.{append_assoc}
use Rattle.std.specs.Option.{unwrap_or}
use Rattle.nuc_base.specs.declared.node.Kind.{Kind}
use Rattle.nuc_class.specs.declared.op.Op.{Op}
use Rattle.nuc_flights.specs.Flights.{flight_of}
use Rattle.nuc_flights.specs.declared.taken.Taken.TheVariants as came
use Rattle.nuc_log.specs.declared.log.LogEntry.{LogEntry}
use Rattle.nuc_log.specs.declared.reply.TakeReply.{TakeReply}
use Rattle.nuc_log.specs.declared.reply.TakeReply.TheVariants as answer
use Rattle.nuc_server.specs.WebEdits.{WebState}
use Rattle.nuc_step.specs.Calls.{MayBeTaken}
use Rattle.nuc_step.specs.Sound.{FitsOutcome}
use Rattle.nuc_step.specs.Stages.{started_of}
use Rattle.nuc_world.specs.Form.{AllGiven, CanFly, IsMember, IsNoticeBelow, IsShared}
use Rattle.nuc_world.specs.Starts.{is_upload}
use Rattle.nuc_world.specs.State.{MemberState, Turn}
use Rattle.nuc_hash.specs.Content.{content_of}
use Rattle.nuc_world.specs.Takes.{CarriesOut, Commits, CommitsBytes, CommitsRead, IsCarriedOut, IsJudged, IsOutdated, Takes, TakesBy, TakesOf, bytes_for, commit_of, committed, is_commit, is_recorded, read_in, seen_content, stored, view_of, wanted_content}
use Rattle.nuc_world.proofs.Beside.{op_keeps}
use Rattle.nuc_world.proofs.Entered.{no_entry_passes}
use Rattle.nuc_world.proofs.Grown.{Grows, Passes, Turned, member_grown, turned_alone}
use Rattle.nuc_world.proofs.Later.{listed_later, member_beside, notices_later}
use Rattle.nuc_world.proofs.Quiet.{taken_member}
use Rattle.nuc_world.proofs.Ran.{runs_sound}
use Rattle.nuc_world.proofs.Takes.{IsFlown, accepted_member, accepted_passes, flown, flown_if, op_all, outdated_member, refused_member}

-- ONE AFTER THE OTHER
passes_on : (s t u : WebState) (kinds : ℕ → Kind) (first : Passes s t kinds) → Passes t u first.later → Passes s u kinds
passes_on s t u kinds first then = record {
  later = then.later;
  grows = record {
    kind = λ x below. then.grows.kind x (let more = first.grows.below in omega (arith, below, more)) ∙ first.grows.kind x below;
    below = let one = first.grows.below in let two = then.grows.below in omega (arith, one, two);
    put = λ v was. then.grows.put v (first.grows.put v was);
  };
  more = first.more ++ then.more;
  entries = then.entries ∙ ap (λ es. es ++ then.more) first.entries ∙ append_assoc s.entries first.more then.more;
  shared = then.shared;
}

turned_after : (t b u : Turn) (kinds : ℕ → Kind) (first : Passes t.shared b.shared kinds) → Turned b u first.later → Turned t u kinds
unfolding passes_on
turned_after t b u kinds first turned = record { passes = passes_on t.shared b.shared u.shared kinds first turned.passes; member = turned.member }

-- A COMMIT
module _ (c n : ℕ) (op : Op) where
  judged_turns : (t : Turn) (r : TakeReply) (u : Turn) (kinds : ℕ → Kind) → IsShared t.shared kinds → IsMember t.shared kinds t.member → IsFlown n t.member.client.flights op
      → IsJudged c n (commit_of op) t r u → Turned t u kinds
  judged_turns t (answer.Accepted rev) u kinds shared member of ((accepted, last, is), now) =
      subst (λ (v : Turn). Turned t v kinds) (sym now) (record {
        passes = accepted_passes t.shared kinds shared t.member member n op of c _ _ accepted u.shared.entries is;
        member = accepted_member t.shared kinds shared t.member member n op of c _ _ accepted u.shared.entries is rev last;
      })
  judged_turns t (answer.Refused why) u kinds shared member of (judged, now) =
      turned_alone t u kinds shared (ap (λ (v : Turn). v.shared) now)
      (subst (IsMember t.shared kinds) (sym (ap (λ (v : Turn). v.member) now)) (refused_member t.shared kinds shared t.member member n op of why))
  judged_turns t (answer.Folder ran) u kinds shared member of is = absurd is
  judged_turns t answer.NoSuchOp u kinds shared member of is = absurd is

  outdated_turns : (t : Turn) (r : TakeReply) (u : Turn) (kinds : ℕ → Kind) → IsShared t.shared kinds → IsMember t.shared kinds t.member → IsFlown n t.member.client.flights op
      → IsOutdated n t r u → Turned t u kinds
  outdated_turns t r u kinds shared member of (is, now) =
      turned_alone t u kinds shared (ap (λ (v : Turn). v.shared) now)
      (subst (IsMember t.shared kinds) (sym (ap (λ (v : Turn). v.member) now)) (outdated_member t.shared kinds shared t.member member n op of))

  -- the blocks of the file come to the store first
  bytes_turns : (bytes : List ℕ) (same : Bool) (t : Turn) (r : TakeReply) (u : Turn) (kinds : ℕ → Kind) → IsShared t.shared kinds → IsMember t.shared kinds t.member
      → IsFlown n t.member.client.flights op → CommitsBytes c n (commit_of op) bytes same t r u → Turned t u kinds
  bytes_turns bytes true t r u kinds shared member of judged =
      let b : Turn = stored bytes t in
      let grows : Grows t.shared b.shared kinds kinds = record { kind = λ x below. refl; below = omega arith; put = λ v was. was } in
      let first = no_entry_passes t.shared b.shared kinds kinds shared grows refl shared.next_ver in
      turned_after t b u kinds first (judged_turns b r u first.later first.shared (member_grown t.shared b.shared kinds first t.member member) of judged)
  bytes_turns bytes false t r u kinds shared member of outdated = outdated_turns t r u kinds shared member of outdated

  read_turns : (read : Option (List ℕ)) (t : Turn) (r : TakeReply) (u : Turn) (kinds : ℕ → Kind) → IsShared t.shared kinds → IsMember t.shared kinds t.member
      → IsFlown n t.member.client.flights op → CommitsRead c n (commit_of op) read t r u → Turned t u kinds
  read_turns None t r u kinds shared member of outdated = outdated_turns t r u kinds shared member of outdated
  read_turns (Some bytes) t r u kinds shared member of commits =
      bytes_turns bytes (is_recorded t.shared.edits.edits (content_of bytes).hash (committed op.remote)) t r u kinds shared member of commits

  commit_turns : (log : List LogEntry) (upload : Bool) (t : Turn) (r : TakeReply) (u : Turn) (kinds : ℕ → Kind) → IsShared t.shared kinds → IsMember t.shared kinds t.member
      → IsFlown n t.member.client.flights op → Commits log c n (commit_of op) upload t r u → Turned t u kinds
  commit_turns log true t r u kinds shared member of commits = read_turns (read_in c n log) t r u kinds shared member of commits
  commit_turns log false t r u kinds shared member of judged = judged_turns t r u kinds shared member of judged

-- IN THE FOLDER
-- what is pending stays
carried_pending : (n : ℕ) (op : Op) (t : Turn) (ran : _) (u : Turn) → IsCarriedOut n op t ran u → t.member.folder.next ≤ u.member.folder.next
    → All (IsNoticeBelow t.member.folder.next) t.member.folder.pending → All (IsNoticeBelow u.member.folder.next) u.member.folder.pending
carried_pending n op t ran u out later below =
    let kept = op_keeps t.member.client.local.keys (unwrap_or (bytes_for t.shared op) []) _ (view_of out.faults out.made out.settled t.member) ran
    (view_of out.faults_after out.made out.settled u.member) out.runs in
    subst (All (IsNoticeBelow u.member.folder.next)) (sym kept.pending) (notices_later t.member.folder.next u.member.folder.next later t.member.folder.pending below)

carried_turns : (n : ℕ) (op : Op) (t : Turn) (ran : _) (u : Turn) (kinds : ℕ → Kind) → IsShared t.shared kinds → IsMember t.shared kinds t.member
    → IsFlown n t.member.client.flights op → IsCarriedOut n op t ran u → Turned t u kinds
carried_turns n op t ran u kinds shared member of out =
    let can : CanFly op = op_all CanFly n t.member.client.flights op of member.flights in
    let sound = runs_sound t.member.client.local.keys (unwrap_or (bytes_for t.shared op) []) op (view_of out.faults out.made out.settled t.member) ran
    (view_of out.faults_after out.made out.settled u.member) can.two (seen_content t.shared.edits.edits op) (wanted_content t.shared.edits.edits op)
    (is_some (bytes_for t.shared op)) out.runs in
    let m : MemberState = record t.member { folder = u.member.folder; due = u.member.due } in
    let given : AllGiven m.folder m.listing = record {
      held = sound.told member.given.held;
      pending = carried_pending n op t ran u out sound.later member.given.pending;
      listed = listed_later t.member.folder.next u.member.folder.next sound.later t.member.listing member.given.listed;
    } in
    let beside : IsMember t.shared kinds m = member_beside t.shared kinds t.member m refl sound.later given member in
    turned_alone t u kinds shared out.shared
    (subst (IsMember t.shared kinds) (sym out.member)
    (taken_member t.shared kinds m beside n (came.Folder ran.outcome)
    (flown_if (MayBeTaken m.client.remote [] (came.Folder ran.outcome)) n m.client.flights op of (λ f same. subst (λ o. FitsOutcome o ran.outcome) (sym same) sound.fits))
    sound.below))

folder_turns : (n : ℕ) (op : Op) (t : Turn) (r : TakeReply) (u : Turn) (kinds : ℕ → Kind) → IsShared t.shared kinds → IsMember t.shared kinds t.member
    → IsFlown n t.member.client.flights op → CarriesOut n op t r u → Turned t u kinds
folder_turns n op t (answer.Folder ran) u kinds shared member of out = carried_turns n op t ran u kinds shared member of out
folder_turns n op t (answer.Accepted rev) u kinds shared member of is = absurd is
folder_turns n op t (answer.Refused why) u kinds shared member of is = absurd is
folder_turns n op t answer.NoSuchOp u kinds shared member of is = absurd is

by_effect : (log : List LogEntry) (c n : ℕ) (op : Op) (commit : Bool) (t : Turn) (r : TakeReply) (u : Turn) (kinds : ℕ → Kind) → IsShared t.shared kinds
    → IsMember t.shared kinds t.member → IsFlown n t.member.client.flights op → TakesBy log c n op commit t r u → Turned t u kinds
by_effect log c n op true t r u kinds shared member of commits = commit_turns c n op log (is_upload op) t r u kinds shared member of commits
by_effect log c n op false t r u kinds shared member of out = folder_turns n op t r u kinds shared member of out

by_flight : (log : List LogEntry) (c n : ℕ) (o : Option Op) (t : Turn) (r : TakeReply) (u : Turn) (kinds : ℕ → Kind) → IsShared t.shared kinds
    → IsMember t.shared kinds t.member → started_of (flight_of n t.member.client.flights) ≡ o → TakesOf log c n o t r u → Turned t u kinds
by_flight log c n None t r u kinds shared member there (is, now) = turned_alone t u kinds shared (ap (λ (v : Turn). v.shared) now)
    (subst (IsMember t.shared kinds) (sym (ap (λ (v : Turn). v.member) now)) member)
by_flight log c n (Some op) t r u kinds shared member there takes =
    by_effect log c n op (is_commit op.effect) t r u kinds shared member (flown n t.member.client.flights (flight_of n t.member.client.flights) op refl there) takes

pub take_turns : (log : List LogEntry) (c n : ℕ) (r : TakeReply) (t u : Turn) (kinds : ℕ → Kind) → IsShared t.shared kinds → IsMember t.shared kinds t.member
    → Takes log c n t r u → Turned t u kinds
take_turns log c n r t u kinds shared member takes = by_flight log c n (started_of (flight_of n t.member.client.flights)) t r u kinds shared member refl takes
