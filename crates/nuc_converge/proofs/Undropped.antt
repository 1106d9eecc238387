-- Where no commit is refused, a client that is left alone drops nothing.
use Rattle.std.specs.Prelude.{All}
use Rattle.std.proofs.Common.{◌≡◌, ◌≢◌, ◌++◌, ℕ, Bool, true, false, cond, List, [], ◌∷◌, map, Option, None, Some, refl, sym, ◌∙◌, ap, subst}
use Rattle.std.proofs.lemmas.List.Elements.{All-append, All-cons, All-nil}
use Rattle.nuc_class.specs.declared.op.Effect.{Effect}
use Rattle.nuc_class.specs.declared.op.Effect.TheVariants as effect
use Rattle.nuc_class.specs.declared.op.Op.{Op}
use Rattle.nuc_class.specs.declared.op.Verb.{Verb}
use Rattle.nuc_class.specs.declared.op.Verb.TheVariants as verb
use Rattle.nuc_edits.specs.Edits.{Recorded}
use Rattle.nuc_flights.specs.Flights.{Flight, Stage, as_planned, flight_of, planned, staged, started, taken, without}
use Rattle.nuc_flights.specs.declared.taken.Taken.{Taken}
use Rattle.nuc_flights.specs.declared.taken.Taken.TheVariants as came
use Rattle.nuc_folder.specs.Outcome.{is_success}
use Rattle.nuc_log.specs.declared.log.LogEntry.{LogEntry}
use Rattle.nuc_log.specs.declared.reply.TakeReply.{TakeReply}
use Rattle.nuc_log.specs.declared.reply.TakeReply.TheVariants as took
use Rattle.nuc_step.specs.Client.{ClientState}
use Rattle.nuc_step.specs.Planning.{IsMendedAtOnce, MendGoes, PlanAnswers, Planning}
use Rattle.nuc_step.specs.Stages.{started_of}
use Rattle.nuc_step.specs.Steps.{Ends, EndsAt, EndsOf, IsDone, NothingToEnd, finished, landed, numbered, reason_of}
use Rattle.nuc_step.specs.declared.answers.Planned.{Planned}
use Rattle.nuc_step.specs.declared.answers.Planned.TheVariants as plan
use Rattle.nuc_step.specs.declared.reason.Reason.{Reason}
use Rattle.nuc_step.specs.declared.reason.Reason.TheVariants as reason
use Rattle.nuc_step.specs.declared.reply.DoneReply.{DoneReply}
use Rattle.nuc_step.specs.declared.reply.DoneReply.TheVariants as done
use Rattle.nuc_log.specs.declared.reply.Reply.TheVariants as reply
use Rattle.nuc_step.proofs.Flying.{all_staged, all_without, flight_in}
use Rattle.nuc_world.specs.State.{MemberState, Turn}
use Rattle.nuc_world.specs.Takes.{CarriesOut, Commits, CommitsBytes, CommitsRead, IsJudged, IsOutdated, Takes, TakesBy, TakesOf, commit_of, committed, is_commit, is_recorded, read_in, stored}
use Rattle.nuc_world.specs.Starts.{is_upload}
use Rattle.nuc_hash.specs.Content.{content_of}
use Rattle.nuc_converge.specs.Alone.{HasGoneWell}
use Rattle.nuc_converge.specs.Counts.{dropped_in}

-- NOTHING THAT FLIES has gone wrong
abbrev pub GoesWell : Stage → Type 0
GoesWell planned = Unit {0}
GoesWell started = Unit {0}
GoesWell (taken (came.Folder o)) = is_success o ≡ true
GoesWell (taken (came.Accepted rev)) = Unit {0}
GoesWell (taken (came.Refused why)) = ⊥

abbrev pub AllGoWell : ClientState → Type 0
AllGoWell c = All (λ f. GoesWell f.stage) c.flights

-- A PLAN: what it brings hasn't begun
at_once_flights : (v : Verb) (op : Op) (c : ClientState) (e : Recorded) (d : ClientState) (f : Recorded) → IsMendedAtOnce v op c e d f → d.flights ≡ c.flights
at_once_flights verb.Adopt op c e d f mended = ap (λ (x : ClientState). x.flights) mended.client
at_once_flights v op c e d f noted = ap (λ (x : ClientState). x.flights) noted.client

fresh_well : (ops : List Op) → All (λ f. GoesWell f.stage) (map as_planned ops)
fresh_well [] = All-nil (λ f. GoesWell f.stage)
fresh_well (op ∷ ops) = All-cons (λ f. GoesWell f.stage) (as_planned op) (map as_planned ops) tt (fresh_well ops)

flown_well : (c d : ClientState) (ops : List Op) → AllGoWell c → d.flights ≡ c.flights ++ map as_planned ops → AllGoWell d
flown_well c d ops well is = subst (All (λ f. GoesWell f.stage)) (sym is) (All-append (λ f. GoesWell f.stage) c.flights (map as_planned ops) well (fresh_well ops))

pub same_well : (c d : ClientState) → AllGoWell c → d.flights ≡ c.flights → AllGoWell d
same_well c d well is = subst (All (λ f. GoesWell f.stage)) (sym is) well

mend_well : (x : Effect) (op : Op) (p q : Planning) → AllGoWell p.client → MendGoes x op p q → AllGoWell q.client
mend_well effect.Nothing op p q well goes = same_well p.client q.client well (at_once_flights op.verb op p.client p.recorded q.client q.recorded goes.0)
mend_well effect.Disk op p q well flies =
    flown_well p.client q.client (numbered p.client.next_op p.client.remote (op ∷ [])) well (ap (λ (x : ClientState). x.flights) flies.client)
mend_well effect.Commit op p q well flies =
    flown_well p.client q.client (numbered p.client.next_op p.client.remote (op ∷ [])) well (ap (λ (x : ClientState). x.flights) flies.client)

pub plan_well : (p : Planning) (answer : Planned) (q : Planning) → AllGoWell p.client → PlanAnswers p answer q → AllGoWell q.client
plan_well p plan.Empty q well (is, same) = same_well p.client q.client well (ap (λ (x : Planning). x.client.flights) same)
plan_well p (plan.Booked op) q well booked = same_well p.client q.client well (ap (λ (x : ClientState). x.flights) booked.noted.client)
plan_well p (plan.Batch ops) q well launched =
    flown_well p.client q.client (numbered p.client.next_op p.client.remote launched.ops) well (ap (λ (x : ClientState). x.flights) launched.client)
plan_well p (plan.Mend op) q well mended = mend_well mended.op.effect mended.op p q well mended.goes
plan_well p (plan.Busy k) q well (some, long, same) = same_well p.client q.client well (ap (λ (x : Planning). x.client.flights) same)

-- A DONE drops nothing
pub record EndsWell (d : ClientState) (r : DoneReply) : Type 0 where
  pub well : AllGoWell d
  pub none : dropped_in (reply.Done r) ≡ 0

landed_flights : (op : Op) (t : Taken) (c : ClientState) → (landed op t c).flights ≡ c.flights
landed_flights op (came.Folder o) c = refl
landed_flights op (came.Accepted rev) c = refl
landed_flights op (came.Refused why) c = refl

no_reason : (t : Taken) (why : Reason) → GoesWell (taken t) → reason_of t ≢ Some why
no_reason (came.Folder o) why well is =
    let none : None ≡ Some why = sym (ap (λ b. cond b None (Some (reason.Folder o))) well) ∙ is in cc
no_reason (came.Accepted rev) why well is = cc
no_reason (came.Refused reason) why well is = absurd well

module _ (n : ℕ) (c : ClientState) (e : Recorded) (d : ClientState) (f : Recorded) (well : AllGoWell c) where
  nothing_well : (r : DoneReply) → NothingToEnd c e r d f → EndsWell d r
  nothing_well done.NoSuchOp (is, same) = record { well = same_well c d well (ap (λ (x : ClientState). x.flights) is); none = refl }
  nothing_well done.Applied ends = absurd ends
  nothing_well done.Stale ends = absurd ends
  nothing_well (done.Dropped w) ends = absurd ends

  rest_well : d.flights ≡ without n c.flights → AllGoWell d
  rest_well is = subst (All (λ g. GoesWell g.stage)) (sym is) (all_without (λ g. GoesWell g.stage) n c.flights well)

  ends_well : (op : Op) (t : Taken) (why : Option Reason) (r : DoneReply) → reason_of t ≡ why → GoesWell (taken t) → Ends n op t why c e r d f → EndsWell d r
  ends_well op t None done.Applied so its (can, is, same) =
      record { well = rest_well (ap (λ (x : ClientState). x.flights) is ∙ landed_flights op t (finished n t c)); none = refl }
  ends_well op t None done.Stale so its (can, is, same) = record { well = rest_well (ap (λ (x : ClientState). x.flights) is); none = refl }
  ends_well op t None (done.Dropped w) so its ends = absurd ends
  ends_well op t None done.NoSuchOp so its ends = absurd ends
  ends_well op t (Some why) r so its ends = absurd (no_reason t why its so)

  stage_well : (op : Op) (st : Stage) (r : DoneReply) → GoesWell st → EndsAt n op st c e r d f → EndsWell d r
  stage_well op planned r its ends = nothing_well r ends
  stage_well op started r its ends = nothing_well r ends
  stage_well op (taken t) r its ends = ends_well op t (reason_of t) r refl its ends

  flight_well : (o : Option Flight) (r : DoneReply) → flight_of n c.flights ≡ o → EndsOf n o c e r d f → EndsWell d r
  flight_well None r there ends = nothing_well r ends
  flight_well (Some g) r there ends = stage_well g.op g.stage r (flight_in (λ h. GoesWell h.stage) n c.flights g there well) ends

  pub done_well : (r : DoneReply) → IsDone n c e r d f → EndsWell d r
  done_well r ends = flight_well (flight_of n c.flights) r refl ends

-- A TAKE that isn't refused
abbrev pub NotRefused : TakeReply → Type 0
NotRefused (took.Refused why) = ⊥
NotRefused _ = Unit {0}

-- one that comes to a stage at which it goes well
pub staged_well : (c d : ClientState) (n : ℕ) (st : Stage) → AllGoWell c → GoesWell st → d.flights ≡ staged n st c.flights → AllGoWell d
staged_well c d n st well its is =
    subst (All (λ f. GoesWell f.stage)) (sym is) (all_staged (λ f. GoesWell f.stage) n st c.flights (λ f _ _. its) well)

module _ (t : Turn) (log : List LogEntry) (by n : ℕ) (r : TakeReply) (u : Turn) (gone : HasGoneWell r) (accepted : NotRefused r) (well : AllGoWell t.member.client) where
  judged_well : (b : Turn) (op : Op) (x : TakeReply) → NotRefused x → AllGoWell b.member.client → IsJudged by n (commit_of op) b x u → AllGoWell u.member.client
  judged_well b op (took.Accepted rev) fine was (judged, now) =
      staged_well b.member.client u.member.client n (taken (came.Accepted rev)) was tt (ap (λ (v : Turn). v.member.client.flights) now)
  judged_well b op (took.Refused why) fine was judged = absurd fine
  judged_well b op (took.Folder ran) fine was judged = absurd judged
  judged_well b op took.NoSuchOp fine was judged = absurd judged

  outdated_well : IsOutdated n t r u → AllGoWell u.member.client
  outdated_well (so, now) = let clash : false ≡ true = subst HasGoneWell so gone in absurd (cc)

  bytes_well : (op : Op) (bytes : List ℕ) (b : Bool) → CommitsBytes by n (commit_of op) bytes b t r u → AllGoWell u.member.client
  bytes_well op bytes true judged = judged_well (stored bytes t) op r accepted well judged
  bytes_well op bytes false outdated = outdated_well outdated

  read_well : (op : Op) (read : Option (List ℕ)) → CommitsRead by n (commit_of op) read t r u → AllGoWell u.member.client
  read_well op None outdated = outdated_well outdated
  read_well op (Some bytes) commits = bytes_well op bytes (is_recorded t.shared.edits.edits (content_of bytes).hash (committed op.remote)) commits

  commit_well : (op : Op) (upload : Bool) → Commits log by n (commit_of op) upload t r u → AllGoWell u.member.client
  commit_well op true commits = read_well op (read_in by n log) commits
  commit_well op false judged = judged_well t op r accepted well judged

  folder_well : (op : Op) (x : TakeReply) → HasGoneWell x → CarriesOut n op t x u → AllGoWell u.member.client
  folder_well op (took.Folder ran) success out =
      staged_well t.member.client u.member.client n (taken (came.Folder ran.outcome)) well success (ap (λ (m : MemberState). m.client.flights) out.member)
  folder_well op (took.Accepted rev) success out = absurd out
  folder_well op (took.Refused why) success out = absurd out
  folder_well op took.NoSuchOp success out = absurd out

  effect_well : (op : Op) (commit : Bool) → TakesBy log by n op commit t r u → AllGoWell u.member.client
  effect_well op true commits = commit_well op (is_upload op) commits
  effect_well op false out = folder_well op r gone out

  op_well : (o : Option Op) → TakesOf log by n o t r u → AllGoWell u.member.client
  op_well None (none, now) = same_well t.member.client u.member.client well (ap (λ (v : Turn). v.member.client.flights) now)
  op_well (Some op) takes = effect_well op (is_commit op.effect) takes

  pub take_well : Takes log by n t r u → AllGoWell u.member.client
  take_well takes = op_well (started_of (flight_of n t.member.client.flights)) takes
