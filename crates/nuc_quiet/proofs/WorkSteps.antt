-- The steps of an operation in a sync: what holds behind each.
use Rattle.std.proofs.Common.{◌≡◌, ◌++◌, ℕ, Bool, true, false, List, [], ◌∷◌, Option, None, Some, drop, refl, sym, ap, subst, ◌∙◌, inl, inr}
use Rattle.nuc_class.specs.declared.op.Op.{Op}
use Rattle.nuc_converge.specs.Alone.{HasBegun}
use Rattle.nuc_converge.specs.Laws.{IsNoRefusal}
use Rattle.nuc_converge.proofs.Starting.{starts_so}
use Rattle.nuc_edits.specs.Edits.{Recorded}
use Rattle.nuc_flights.specs.Flights.{flight_of, started, taken, without}
use Rattle.nuc_flights.specs.declared.taken.Taken.{Taken}
use Rattle.nuc_flights.specs.declared.taken.Taken.TheVariants as came
use Rattle.nuc_folder.specs.declared.outcome.Outcome.TheVariants as outcome
use Rattle.nuc_hash.specs.Content.{content_of}
use Rattle.nuc_journal.specs.declared.entry.Entry.{Entry}
use Rattle.nuc_log.specs.declared.event.Event.TheVariants as event
use Rattle.nuc_log.specs.declared.log.LogEntry.{LogEntry}
use Rattle.nuc_log.specs.declared.log.LogEntry.TheVariants as entry
use Rattle.nuc_log.specs.declared.reply.Reply.{Reply}
use Rattle.nuc_log.specs.declared.reply.Reply.TheVariants as reply
use Rattle.nuc_log.specs.declared.reply.StartReply.{StartReply}
use Rattle.nuc_log.specs.declared.reply.TakeReply.{TakeReply}
use Rattle.nuc_log.specs.declared.reply.TakeReply.TheVariants as took
use Rattle.nuc_server.specs.declared.commit.Commit.{Commit}
use Rattle.nuc_step.specs.Client.{ClientState}
use Rattle.nuc_step.specs.Sound.{AreNumbered}
use Rattle.nuc_step.specs.Stages.{started_of}
use Rattle.nuc_step.specs.Steps.{Ends, EndsOf, IsDone, after_take, finished, landed, reason_of}
use Rattle.nuc_step.specs.declared.reason.Reason.{Reason}
use Rattle.nuc_step.specs.declared.reply.DoneReply.{DoneReply}
use Rattle.nuc_step.specs.declared.reply.DoneReply.TheVariants as done
use Rattle.nuc_sync.specs.Tasks.{begins, ends, more, next, takes}
use Rattle.nuc_transfer.specs.Transfer.{Collision}
use Rattle.nuc_world.specs.Parts.{turn_at}
use Rattle.nuc_world.specs.Starts.{is_upload}
use Rattle.nuc_world.specs.State.{MemberState, Turn}
use Rattle.nuc_world.specs.Step.{IsTurn}
use Rattle.nuc_world.specs.Takes.{CarriesOut, Commits, CommitsBytes, CommitsRead, IsJudged, IsOutdated, TakesBy, TakesOf, commit_of, is_commit, is_recorded, read_in, stored}
use Rattle.nuc_world.specs.World.{WorldData}
use Rattle.nuc_world.proofs.Grown.{its_member}
use Rattle.nuc_world.proofs.Reached.{reached_world}
use Rattle.nuc_quiet.specs.Laws.{FolderMatches}
use Rattle.nuc_quiet.proofs.Holding.{AtDone, AtStart, AtTake, Holds, marking}
use Rattle.nuc_quiet.proofs.Numbers.{SameBut, Wait, flight_of_staged, none_waits, wait_still, wait_then}
use Rattle.nuc_quiet.proofs.Parts.{DonesGoWell, HasStarted, StartsGoWell, TakesGoWell}
use Rattle.nuc_quiet.proofs.PlanStep.{first_starts, plans_again}
use Rattle.nuc_quiet.proofs.Points.{IsSyncing, goes_on, in_sync, never_refused, turned}

-- A START
module _ (starts_well : StartsGoWell) (c : ℕ) (b a : Bool) (n : ℕ) (left : List ℕ) (applied : Bool) (w v : WorldData) (at : AtStart c n left w) where
  by_start : (answer : StartReply) → IsTurn w.log (event.Start c n) (reply.Started answer) w.now v.now
      → v.log ≡ w.log ++ entry.Stepped (event.Start c n) (reply.Started answer) ∷ []
      → Holds c b v (more (begins c a n left applied) (reply.Started answer) ++ marking c)
  by_start answer step log =
      let m = at.member in
      let t = turned w.log (event.Start c n) (reply.Started answer) w.now v.now m step at.syncing.was in
      let (went, nothing, begun) = starts_well w.log w.now v.now c n m t.after at.planned.flight answer (in_sync c w m at.syncing) at.matches
      at.planned.there at.planned.stage step t.now in
      let has : HasBegun answer = subst HasBegun (sym went.1) tt in
      let same : SameBut n m.client.flights t.after.client.flights = λ q other. elim (starts_so n m answer t.after has t.does.0) [
        | inl still ↦ ap (λ (x : ClientState). flight_of q x.flights) still
        | inr (of, is) ↦ ap (λ (x : ClientState). flight_of q x.flights) is ∙ flight_of_staged q n started m.client.flights other
      ] in
      subst (λ r. Holds c b v (more (begins c a n left applied) (reply.Started r) ++ marking c)) (sym went.1) (
        refl,
        refl,
        record {
          member = t.after;
          syncing = goes_on c w v m t.after (event.Start c n) (reply.Started answer) at.syncing step log (refl, has) t.now nothing;
          started = subst (λ l. HasStarted c n l v.now t.after) (sym log) begun;
          wait = wait_still n left m.client.flights t.after.client.flights same at.wait;
        },
      )

  pub start_step : (r : Reply) → IsTurn w.log (event.Start c n) r w.now v.now → v.log ≡ w.log ++ entry.Stepped (event.Start c n) r ∷ []
      → Holds c b v (more (begins c a n left applied) r ++ marking c)
  start_step (reply.Started answer) step log = by_start answer step log
  start_step r step log = absurd (step.does)

-- A TAKE: the client is told what came of it
record IsTold (n : ℕ) (m k : MemberState) : Type 0 where
  came_so : Taken
  news : List Entry
  is : k.client ≡ after_take n came_so news m.client

judged_told : (c n : ℕ) (k : Commit) (t : Turn) (r : TakeReply) (u : Turn) → IsJudged c n k t r u → IsTold n t.member u.member
judged_told c n k t (took.Accepted rev) u (judged, now) =
    record { came_so = came.Accepted rev; news = drop t.member.client.remote.cursor u.shared.entries; is = ap (λ (x : Turn). x.member.client) now }
judged_told c n k t (took.Refused why) u (judged, now) = record { came_so = came.Refused why; news = []; is = ap (λ (x : Turn). x.member.client) now }
judged_told c n k t (took.Folder ran) u judged = absurd judged
judged_told c n k t took.NoSuchOp u judged = absurd judged

outdated_told : (n : ℕ) (t : Turn) (r : TakeReply) (u : Turn) → IsOutdated n t r u → IsTold n t.member u.member
outdated_told n t r u (answer, now) = record { came_so = came.Folder outcome.Changed; news = []; is = ap (λ (x : Turn). x.member.client) now }

bytes_told : (c n : ℕ) (k : Commit) (bytes : List ℕ) (same : Bool) (t : Turn) (r : TakeReply) (u : Turn) → CommitsBytes c n k bytes same t r u
    → IsTold n t.member u.member
bytes_told c n k bytes true t r u judged = judged_told c n k (stored bytes t) r u judged
bytes_told c n k bytes false t r u outdated = outdated_told n t r u outdated

read_told : (c n : ℕ) (k : Commit) (read : Option (List ℕ)) (t : Turn) (r : TakeReply) (u : Turn) → CommitsRead c n k read t r u → IsTold n t.member u.member
read_told c n k None t r u outdated = outdated_told n t r u outdated
read_told c n k (Some bytes) t r u commits = bytes_told c n k bytes (is_recorded t.shared.edits.edits (content_of bytes).hash k.value) t r u commits

commit_told : (log : List LogEntry) (c n : ℕ) (k : Commit) (upload : Bool) (t : Turn) (r : TakeReply) (u : Turn) → Commits log c n k upload t r u
    → IsTold n t.member u.member
commit_told log c n k true t r u commits = read_told c n k (read_in c n log) t r u commits
commit_told log c n k false t r u judged = judged_told c n k t r u judged

carried_told : (n : ℕ) (op : Op) (t : Turn) (r : TakeReply) (u : Turn) → CarriesOut n op t r u → IsTold n t.member u.member
carried_told n op t (took.Folder ran) u out = record { came_so = came.Folder ran.outcome; news = []; is = ap (λ (x : MemberState). x.client) out.member }
carried_told n op t (took.Accepted rev) u out = absurd out
carried_told n op t (took.Refused why) u out = absurd out
carried_told n op t took.NoSuchOp u out = absurd out

op_told : (log : List LogEntry) (c n : ℕ) (op : Op) (commit : Bool) (t : Turn) (r : TakeReply) (u : Turn) → TakesBy log c n op commit t r u
    → IsTold n t.member u.member
op_told log c n op true t r u commits = commit_told log c n (commit_of op) (is_upload op) t r u commits
op_told log c n op false t r u out = carried_told n op t r u out

-- which changes the stage of its flight alone
told_others : (n : ℕ) (m k : MemberState) → IsTold n m k → SameBut n m.client.flights k.client.flights
told_others n m k told q other = ap (λ (d : ClientState). flight_of q d.flights) told.is ∙ flight_of_staged q n (taken told.came_so) m.client.flights other

takes_others : (log : List LogEntry) (c n : ℕ) (o : Option Op) (t : Turn) (r : TakeReply) (u : Turn) → TakesOf log c n o t r u
    → SameBut n t.member.client.flights u.member.client.flights
takes_others log c n None t r u (answer, now) = λ q other. ap (λ (x : Turn). flight_of q x.member.client.flights) now
takes_others log c n (Some op) t r u so = told_others n t.member u.member (op_told log c n op (is_commit op.effect) t r u so)

module _ (takes_well : TakesGoWell) (none : ¬ Collision) (c : ℕ) (b a : Bool) (n : ℕ) (left : List ℕ) (applied : Bool) (w v : WorldData)
    (at : AtTake c n left w) where
  by_take : (answer : TakeReply) → IsTurn w.log (event.Take c n) (reply.Took answer) w.now v.now
      → v.log ≡ w.log ++ entry.Stepped (event.Take c n) (reply.Took answer) ∷ []
      → Holds c b v (more (takes c a n left applied) (reply.Took answer) ++ marking c)
  by_take answer step log =
      let m = at.member in
      let t = turned w.log (event.Take c n) (reply.Took answer) w.now v.now m step at.syncing.was in
      let so = takes_well w.log w.now v.now c n m t.after answer (in_sync c w m at.syncing) at.started none step t.now in
      let never = never_refused c w v m (event.Take c n) (reply.Took answer) at.syncing step (refl, so.0) in (
        refl,
        refl,
        record {
          member = t.after;
          syncing = goes_on c w v m t.after (event.Take c n) (reply.Took answer) at.syncing step log (refl, so.0) t.now so.1;
          taken = so.2.0;
          accepted = λ why is. none (subst (λ r. IsNoRefusal (entry.Stepped (event.Take c n) (reply.Took r))) (so.2.1 why is) never);
          wait = wait_still n left m.client.flights t.after.client.flights
              (takes_others w.log c n (started_of (flight_of n m.client.flights)) (turn_at w.now.shared m) answer (turn_at v.now.shared t.after) t.does) at.wait;
        },
      )

  pub take_step : (r : Reply) → IsTurn w.log (event.Take c n) r w.now v.now → v.log ≡ w.log ++ entry.Stepped (event.Take c n) r ∷ []
      → Holds c b v (more (takes c a n left applied) r ++ marking c)
  take_step (reply.Took answer) step log = by_take answer step log
  take_step r step log = absurd (step.does)

-- A DONE: what was applied flies no more
landed_flights : (op : Op) (t : Taken) (c : ClientState) → (landed op t c).flights ≡ c.flights
landed_flights op (came.Folder o) c = refl
landed_flights op (came.Accepted rev) c = refl
landed_flights op (came.Refused why) c = refl

ended_flights : (n : ℕ) (op : Op) (t : Taken) (why : Option Reason) (c d : ClientState) (e f : Recorded) → Ends n op t why c e done.Applied d f
    → d.flights ≡ without n c.flights
ended_flights n op t None c d e f (can, is, same) = ap (λ (x : ClientState). x.flights) is ∙ landed_flights op t (finished n t c)
ended_flights n op t (Some why) c d e f never = absurd never

module _ (dones_well : DonesGoWell) (c : ℕ) (b a : Bool) (n : ℕ) (left : List ℕ) (applied : Bool) (w v : WorldData) (at : AtDone c n left w) where
  then_next : (k : MemberState) → IsSyncing c v k → FolderMatches v.now.shared k → (ns : List ℕ) → Wait ns k.client.flights
      → Holds c b v (next c a ns true ++ marking c)
  then_next k syncing matches [] wait = (refl, refl, plans_again c b a v k syncing matches (none_waits k.client.flights wait))
  then_next k syncing matches (q ∷ ns) wait = first_starts c b a v k syncing matches q ns true wait

  by_done : (answer : DoneReply) → IsTurn w.log (event.Done c n) (reply.Done answer) w.now v.now
      → v.log ≡ w.log ++ entry.Stepped (event.Done c n) (reply.Done answer) ∷ []
      → Holds c b v (more (ends c a n left applied) (reply.Done answer) ++ marking c)
  by_done answer step log =
      let m = at.member in
      let t = turned w.log (event.Done c n) (reply.Done answer) w.now v.now m step at.syncing.was in
      let so = dones_well w.log w.now v.now c n m t.after answer (in_sync c w m at.syncing) at.taken at.accepted step t.now in
      let numbers : AreNumbered m.client.flights m.client.next_op =
      (its_member w.now (reached_world w.log w.now at.syncing.now) c m at.syncing.was).client.numbers in
      let applied_so : IsDone n m.client w.now.shared.edits done.Applied t.after.client v.now.shared.edits =
      subst (λ r. IsDone n m.client w.now.shared.edits r t.after.client v.now.shared.edits) so.0 t.does.0 in
      let flights : t.after.client.flights ≡ without n m.client.flights =
      ended_flights n at.taken.op at.taken.came_so (reason_of at.taken.came_so) m.client t.after.client w.now.shared.edits v.now.shared.edits
      (subst (λ o. EndsOf n o m.client w.now.shared.edits done.Applied t.after.client v.now.shared.edits) at.taken.flies applied_so) in
      subst (λ r. Holds c b v (more (ends c a n left applied) (reply.Done r) ++ marking c)) (sym so.0)
      (then_next t.after (goes_on c w v m t.after (event.Done c n) (reply.Done answer) at.syncing step log refl t.now so.1) so.2 left
      (subst (Wait left) (sym flights) (wait_then n left m.client.flights m.client.next_op numbers at.wait)))

  pub done_step : (r : Reply) → IsTurn w.log (event.Done c n) r w.now v.now → v.log ≡ w.log ++ entry.Stepped (event.Done c n) r ∷ []
      → Holds c b v (more (ends c a n left applied) r ++ marking c)
  done_step (reply.Done answer) step log = by_done answer step log
  done_step r step log = absurd (step.does)
