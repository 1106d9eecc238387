-- A Take leaves names alone: a commit brings the journal those of its operation, and its calls bring them to the folder.
use Rattle.std.specs.Prelude.{All, is_some}
use Rattle.std.proofs.Common.{◌≡◌, ℕ, Bool, true, false, List, [], drop, Option, Some, None, refl, sym, ap, subst, arith}
use Rattle.std.specs.Option.{unwrap_or}
use Rattle.nuc_base.specs.declared.change.Change.{Change}
use Rattle.nuc_base.specs.declared.change.Change.TheVariants.{Keep, Put, Cut}
use Rattle.nuc_class.specs.declared.op.Op.{Op}
use Rattle.nuc_flights.specs.Flights.{Flight, Stage, flight_of, planned, started, taken}
use Rattle.nuc_flights.specs.declared.taken.Taken.TheVariants as came
use Rattle.nuc_folder.specs.declared.outcome.Outcome.TheVariants as outcome
use Rattle.nuc_hash.specs.Content.{content_of}
use Rattle.nuc_journal.specs.declared.entry.Entry.{Entry}
use Rattle.nuc_log.specs.declared.log.LogEntry.{LogEntry}
use Rattle.nuc_log.specs.declared.reply.TakeReply.{TakeReply}
use Rattle.nuc_log.specs.declared.reply.TakeReply.TheVariants as answer
use Rattle.nuc_step.specs.Stages.{if_started, started_of}
use Rattle.nuc_world.specs.Starts.{is_upload}
use Rattle.nuc_world.specs.State.{MemberState, Turn}
use Rattle.nuc_world.specs.Takes.{CarriesOut, Commits, CommitsBytes, CommitsRead, IsCarriedOut, IsJudged, IsOutdated, Takes, TakesBy, TakesOf, bytes_for, commit_of, committed, is_commit, is_recorded, read_in, seen_content, stored, told, view_of, wanted_content}
use Rattle.nuc_world.proofs.Beside.{op_keeps}
use Rattle.nuc_fit.proofs.NamesCalls.{calls_named}
use Rattle.nuc_fit.proofs.NamesClient.{take_named}
use Rattle.nuc_fit.proofs.NamesForm.{IsListedFew, NamedChange, NamedClient, NamedEntry, NamedNotice, NamedOp, NamedValue}
use Rattle.nuc_fit.proofs.NamesLists.{all_drop, all_none, flight_all}
use Rattle.nuc_fit.proofs.NamesRuns.{op_named}
use Rattle.nuc_fit.proofs.NamesTurns.{mark_turn, with_client_named}
use Rattle.nuc_fit.proofs.NamesWeb.{entered_named}
use Rattle.nuc_fit.proofs.NamesWorld.{NamedMember, NamedTurn, after_step, alone}

-- WHICH OPERATION it is
stage_op : (stage : Stage) (op other : Op) → if_started stage op ≡ Some other → op ≡ other
stage_op planned op other is = cc
stage_op started op other is = let same : op ≡ other = cc in same
stage_op (taken t) op other is = cc

flown_named : (n : ℕ) (fs : List Flight) (o : Option Flight) (op : Op) → flight_of n fs ≡ o → started_of o ≡ Some op → All (λ f. NamedOp f.op) fs → NamedOp op
flown_named n fs None op there is all = cc
flown_named n fs (Some f) op there is all = subst NamedOp (stage_op f.stage f.op op is) (flight_all (λ f. NamedOp f.op) n fs f there all)

committed_named : (c : Change) → NamedChange c → NamedValue (committed c)
committed_named Keep its = tt
committed_named (Put n) its = its
committed_named Cut its = tt

-- THE CLIENT IS TOLD
told_named : (n : ℕ) (t : _) (news : List Entry) (m : MemberState) → All NamedEntry news → NamedMember m → NamedMember (told n t news m)
told_named n t news m all named = with_client_named _ m (take_named m.client named.client n t news all) named

module _ (most c n : ℕ) (op : Op) (its : NamedOp op) where
  -- A COMMIT
  judged_turn : (t : Turn) (r : TakeReply) (u : Turn) → NamedTurn most t → IsJudged c n (commit_of op) t r u → NamedTurn (after_step most) u
  judged_turn t (answer.Accepted rev) u named ((accepted, last, is), now) =
      let all : All NamedEntry u.shared.entries =
      entered_named t.shared.entries op.id.0 (committed op.remote) c u.shared.entries is (committed_named op.remote its.remote) named.shared.entries in
      record {
        shared = record {
          entries = all;
          next =
              let next : u.shared.ids.next_id ≡ t.shared.ids.next_id = ap (λ (v : Turn). v.shared.ids.next_id) now in
              let low = named.shared.next in
              omega (arith, next, low);
        };
        member = subst NamedMember (sym (ap (λ (v : Turn). v.member) now))
            (told_named n (came.Accepted rev) (drop t.member.client.remote.cursor u.shared.entries) t.member
            (all_drop NamedEntry t.member.client.remote.cursor u.shared.entries all) named.member);
      }
  judged_turn t (answer.Refused why) u named (judged, now) = alone most t u named (ap (λ (v : Turn). v.shared) now)
      (subst NamedMember (sym (ap (λ (v : Turn). v.member) now)) (told_named n (came.Refused why) [] t.member (all_none NamedEntry) named.member))
  judged_turn t (answer.Folder ran) u named is = absurd is
  judged_turn t answer.NoSuchOp u named is = absurd is

  outdated_turn : (t : Turn) (r : TakeReply) (u : Turn) → NamedTurn most t → IsOutdated n t r u → NamedTurn (after_step most) u
  outdated_turn t r u named (is, now) = alone most t u named (ap (λ (v : Turn). v.shared) now)
      (subst NamedMember (sym (ap (λ (v : Turn). v.member) now)) (told_named n (came.Folder outcome.Changed) [] t.member (all_none NamedEntry) named.member))

  -- the blocks of the file come to the store first
  stored_named : (bytes : List ℕ) (t : Turn) → NamedTurn most t → NamedTurn most (stored bytes t)
  stored_named bytes t named = record { shared = record { entries = named.shared.entries; next = named.shared.next }; member = named.member }

  bytes_turn : (bytes : List ℕ) (same : Bool) (t : Turn) (r : TakeReply) (u : Turn) → NamedTurn most t → CommitsBytes c n (commit_of op) bytes same t r u → NamedTurn (after_step most) u
  bytes_turn bytes true t r u named judged = judged_turn (stored bytes t) r u (stored_named bytes t named) judged
  bytes_turn bytes false t r u named outdated = outdated_turn t r u named outdated

  read_turn : (read : Option (List ℕ)) (t : Turn) (r : TakeReply) (u : Turn) → NamedTurn most t → CommitsRead c n (commit_of op) read t r u → NamedTurn (after_step most) u
  read_turn None t r u named outdated = outdated_turn t r u named outdated
  read_turn (Some bytes) t r u named commits = bytes_turn bytes (is_recorded t.shared.edits.edits (content_of bytes).hash (committed op.remote)) t r u named commits

  commit_turn : (log : List LogEntry) (upload : Bool) (t : Turn) (r : TakeReply) (u : Turn) → NamedTurn most t → Commits log c n (commit_of op) upload t r u → NamedTurn (after_step most) u
  commit_turn log true t r u named commits = read_turn (read_in c n log) t r u named commits
  commit_turn log false t r u named judged = judged_turn t r u named judged

  -- IN THE FOLDER
  carried_turn : (t : Turn) (ran : _) (u : Turn) → NamedTurn most t → IsCarriedOut n op t ran u → NamedTurn (after_step most) u
  carried_turn t ran u named out =
      let keys = t.member.client.local.keys in
      let bytes = unwrap_or (bytes_for t.shared op) [] in
      let before = view_of out.faults out.made out.settled t.member in
      let after = view_of out.faults_after out.made out.settled u.member in
      let seen = seen_content t.shared.edits.edits op in
      let wanted = wanted_content t.shared.edits.edits op in
      let kept = op_keeps keys bytes _ before ran after out.runs in
      let member = told_named n (came.Folder ran.outcome) [] t.member (all_none NamedEntry) named.member in
      alone most t u named out.shared (record {
        client = subst NamedClient (sym (ap (λ (m : MemberState). m.client) out.member)) member.client;
        folder = record {
          held = op_named bytes keys _ before ran after out.runs (calls_named keys op seen wanted (is_some (bytes_for t.shared op)) its) named.member.folder.held;
          pending = subst (All NamedNotice) (sym kept.pending) named.member.folder.pending;
        };
        listed = subst IsListedFew (sym (ap (λ (m : MemberState). m.listing) out.member)) named.member.listed;
      })

  folder_turn : (t : Turn) (r : TakeReply) (u : Turn) → NamedTurn most t → CarriesOut n op t r u → NamedTurn (after_step most) u
  folder_turn t (answer.Folder ran) u named out = carried_turn t ran u named out
  folder_turn t (answer.Accepted rev) u named is = absurd is
  folder_turn t (answer.Refused why) u named is = absurd is
  folder_turn t answer.NoSuchOp u named is = absurd is

  by_effect : (log : List LogEntry) (commit : Bool) (t : Turn) (r : TakeReply) (u : Turn) → NamedTurn most t → TakesBy log c n op commit t r u → NamedTurn (after_step most) u
  by_effect log true t r u named commits = commit_turn log (is_upload op) t r u named commits
  by_effect log false t r u named out = folder_turn t r u named out

by_flight : (most c n : ℕ) (log : List LogEntry) (o : Option Op) (t : Turn) (r : TakeReply) (u : Turn) → NamedTurn most t
    → started_of (flight_of n t.member.client.flights) ≡ o → TakesOf log c n o t r u → NamedTurn (after_step most) u
by_flight most c n log None t r u named there (is, now) = mark_turn most t u named now
by_flight most c n log (Some op) t r u named there takes =
    by_effect most c n op (flown_named n t.member.client.flights (flight_of n t.member.client.flights) op refl there named.member.client.flights)
    log (is_commit op.effect) t r u named takes

pub take_turn : (most : ℕ) (t u : Turn) → NamedTurn most t → (log : List LogEntry) (c n : ℕ) (r : TakeReply) → Takes log c n t r u → NamedTurn (after_step most) u
take_turn most t u named log c n r takes = by_flight most c n log (started_of (flight_of n t.member.client.flights)) t r u named refl takes
