-- Each step of a client that is left alone leads to the next point.
use Rattle.std.specs.Prelude.{set, slice_get, sum_by}
use Rattle.std.proofs.Common.{◌≡◌, ◌≤◌, ◌+◌, ◌++◌, ℕ, zero, suc, Bool, List, [], ◌∷◌, Option, None, Some, refl, sym, ◌∙◌, ap, subst, arith}
use Rattle.std.proofs.lemmas.List.{append_assoc}
use Rattle.std.proofs.lemmas.List.Sums.{sum_by_push}
use Rattle.std.proofs.lemmas.Option.{same_Some}
use Rattle.nuc_class.specs.declared.op.Effect.{Effect}
use Rattle.nuc_class.specs.declared.op.Effect.TheVariants as effect
use Rattle.nuc_class.specs.declared.op.Op.{Op}
use Rattle.nuc_class.specs.declared.op.Verb.{Verb}
use Rattle.nuc_class.specs.declared.op.Verb.TheVariants as verb
use Rattle.nuc_edits.specs.Edits.{Recorded, same_hash}
use Rattle.nuc_flights.specs.Flights.{Flight, Stage, flight_of, planned, started, taken}
use Rattle.nuc_log.specs.declared.event.Event.{Event}
use Rattle.nuc_log.specs.declared.event.Event.TheVariants as event
use Rattle.nuc_log.specs.declared.log.LogEntry.{LogEntry}
use Rattle.nuc_log.specs.declared.log.LogEntry.TheVariants as entry
use Rattle.nuc_log.specs.declared.reply.Reply.{Reply}
use Rattle.nuc_log.specs.declared.reply.Reply.TheVariants as reply
use Rattle.nuc_log.specs.declared.reply.MarkReply.{MarkReply}
use Rattle.nuc_log.specs.declared.reply.StartReply.{StartReply}
use Rattle.nuc_log.specs.declared.reply.TakeReply.{TakeReply}
use Rattle.nuc_step.specs.Client.{ClientState}
use Rattle.nuc_step.specs.Planning.{IsMendedAtOnce, MendGoes, PlanAnswers, Planning}
use Rattle.nuc_step.specs.Steps.{Ends, EndsAt, EndsOf, IsDone, NothingToEnd, reason_of}
use Rattle.nuc_step.specs.declared.answers.Planned.{Planned}
use Rattle.nuc_step.specs.declared.answers.Planned.TheVariants as plan
use Rattle.nuc_step.specs.declared.reason.Reason.{Reason}
use Rattle.nuc_step.specs.declared.reply.DoneReply.{DoneReply}
use Rattle.nuc_step.specs.declared.reply.DoneReply.TheVariants as done
use Rattle.nuc_flights.specs.declared.taken.Taken.{Taken}
use Rattle.nuc_world.specs.Form.{IsMember, IsWorld}
use Rattle.nuc_world.specs.Parts.{turn_at}
use Rattle.nuc_world.specs.Runs.{Reaches}
use Rattle.nuc_world.specs.Runs.Reaches.{stepped}
use Rattle.nuc_world.specs.State.{MemberState, Turn, WorldState, member_of, with_member}
use Rattle.nuc_world.specs.Step.{Does, IsStep, IsTurn, Plans, client_of, planning_of}
use Rattle.nuc_world.proofs.Grown.{its_member}
use Rattle.nuc_world.proofs.Reached.{reached_world}
use Rattle.nuc_world.proofs.Ready.{can_plan}
use Rattle.nuc_converge.specs.Alone as left
use Rattle.nuc_converge.proofs.InFlight as fly
use Rattle.nuc_converge.specs.Alone.{HasBegun, HasGoneWell, IsIdlePlan}
use Rattle.nuc_converge.specs.Counts.{applied_in, dropped_in, of_entry, planned_in}
use Rattle.nuc_converge.proofs.Parts.{Carries, DonesStayAlone, PlansStayAlone}
use Rattle.nuc_converge.proofs.Point.{IsPoint, Moves}
use Rattle.nuc_converge.proofs.Starting.{some_carries, start_moves, still_moves}
use Rattle.nuc_converge.proofs.TakingOne.{take_moves}

-- THE MEMBERS. Its place has the one that was set
set_there : (ms : List MemberState) (i : ℕ) (m n : MemberState) → slice_get ms i ≡ Some m → slice_get (set ms i n) i ≡ Some n
set_there [] i m n at = cc
set_there (k ∷ ms) zero m n at = refl
set_there (k ∷ ms) (suc i) m n at = set_there ms i m n at

set_again : (ms : List MemberState) (i : ℕ) (m : MemberState) → slice_get ms i ≡ Some m → set ms i m ≡ ms
set_again [] i m at = cc
set_again (k ∷ ms) zero m at = let one : m ≡ k = cc in ap (λ x. x ∷ ms) one
set_again (k ∷ ms) (suc i) m at = ap (λ xs. k ∷ xs) (set_again ms i m at)

pub member_there : (c : ℕ) (ms : List MemberState) (m n : MemberState) → member_of c ms ≡ Some m → member_of c (with_member c n ms) ≡ Some n
member_there zero ms m n at = cc
member_there (suc i) ms m n at = set_there ms i m n at

pub member_again : (c : ℕ) (ms : List MemberState) (m : MemberState) → member_of c ms ≡ Some m → with_member c m ms ≡ ms
member_again zero ms m at = cc
member_again (suc i) ms m at = set_again ms i m at

-- WHAT IS RECORDED of edits stays at a plan
at_once_edits : (v : Verb) (op : Op) (c : ClientState) (e : Recorded) (d : ClientState) (f : Recorded) → IsMendedAtOnce v op c e d f → f.edits ≡ e.edits
at_once_edits verb.Adopt op c e d f mended = ap (λ (x : Recorded). x.edits) mended.recorded
at_once_edits v op c e d f noted = ap (λ (x : Recorded). x.edits) noted.recorded

mend_edits : (x : Effect) (op : Op) (p q : Planning) → MendGoes x op p q → q.recorded.edits ≡ p.recorded.edits
mend_edits effect.Nothing op p q goes = at_once_edits op.verb op p.client p.recorded q.client q.recorded goes.0
mend_edits effect.Disk op p q flies = ap (λ (x : Recorded). x.edits) flies.recorded
mend_edits effect.Commit op p q flies = ap (λ (x : Recorded). x.edits) flies.recorded

plan_edits : (p : Planning) (answer : Planned) (q : Planning) → PlanAnswers p answer q → q.recorded.edits ≡ p.recorded.edits
plan_edits p plan.Empty q (is, same) = ap (λ (x : Planning). x.recorded.edits) same
plan_edits p (plan.Booked op) q booked = ap (λ (x : Recorded). x.edits) booked.noted.recorded
plan_edits p (plan.Batch ops) q launched = ap (λ (x : Recorded). x.edits) launched.recorded
plan_edits p (plan.Mend op) q mended = mend_edits mended.op.effect mended.op p q mended.goes
plan_edits p (plan.Busy k) q (some, long, same) = ap (λ (x : Planning). x.recorded.edits) same

-- and at a Done
module _ (n : ℕ) (c : ClientState) (e : Recorded) (d : ClientState) (f : Recorded) where
  nothing_edits : (r : DoneReply) → NothingToEnd c e r d f → f.edits ≡ e.edits
  nothing_edits done.NoSuchOp (is, same) = ap (λ (x : Recorded). x.edits) same
  nothing_edits done.Applied ends = absurd ends
  nothing_edits done.Stale ends = absurd ends
  nothing_edits (done.Dropped w) ends = absurd ends

  ends_edits : (op : Op) (t : Taken) (why : Option Reason) (r : DoneReply) → Ends n op t why c e r d f → f.edits ≡ e.edits
  ends_edits op t None done.Applied (can, is, same) = ap (λ (x : Recorded). x.edits) same
  ends_edits op t None done.Stale (can, is, same) = ap (λ (x : Recorded). x.edits) same
  ends_edits op t None (done.Dropped w) ends = absurd ends
  ends_edits op t None done.NoSuchOp ends = absurd ends
  ends_edits op t (Some why) done.Applied ends = absurd ends
  ends_edits op t (Some why) done.Stale ends = absurd ends
  ends_edits op t (Some why) (done.Dropped w) (so, is, same) = ap (λ (x : Recorded). x.edits) same
  ends_edits op t (Some why) done.NoSuchOp ends = absurd ends

  stage_edits : (op : Op) (st : Stage) (r : DoneReply) → EndsAt n op st c e r d f → f.edits ≡ e.edits
  stage_edits op planned r ends = nothing_edits r ends
  stage_edits op started r ends = nothing_edits r ends
  stage_edits op (taken t) r ends = ends_edits op t (reason_of t) r ends

  flight_edits : (o : Option Flight) (r : DoneReply) → EndsOf n o c e r d f → f.edits ≡ e.edits
  flight_edits None r ends = nothing_edits r ends
  flight_edits (Some g) r ends = stage_edits g.op g.stage r ends

  done_edits : (r : DoneReply) → IsDone n c e r d f → f.edits ≡ e.edits
  done_edits r ends = flight_edits (flight_of n c.flights) r ends

-- ONE ENTRY MORE of the part
step_counts : (count : Reply → ℕ) (part : List LogEntry) (e : Event) (r : Reply)
    → sum_by (of_entry count) (part ++ entry.Stepped e r ∷ []) ≡ sum_by (of_entry count) part + count r
step_counts count part e r = sum_by_push (of_entry count) part (entry.Stepped e r)

module _ (plans : PlansStayAlone) (dones : DonesStayAlone) (c : ℕ) (before part : List LogEntry) (w u v : WorldState) (a : ℕ) where
  abbrev Same : ℕ → ℕ → Bool
  Same = same_hash w.shared.edits.edits

  abbrev GoesTo : MemberState → MemberState → Reply → Type 0
  GoesTo m n r = Moves Same u.shared.edits.edits v.shared.edits.edits v.shared.entries m.client n.client r

  -- a step of the client, by what it does
  moved_point : (e : Event) (r : Reply) (m n : MemberState) → IsStep (before ++ part) u e r v → member_of c v.members ≡ Some n → IsPoint c before part w u a m
      → GoesTo m n r → IsPoint c before (part ++ entry.Stepped e r ∷ []) w v a n
  moved_point e r m n step there point moves = record {
    was = there;
    reaches = subst (λ log. Reaches log v) (append_assoc before part (entry.Stepped e r ∷ [])) (stepped (before ++ part) u e r v point.reaches step);
    edits = moves.edits_are ∙ point.edits;
    alone = moves.alone;
    ready = moves.ready;
    pays = λ b is_b.
        let (k, is_k) = some_carries Same m.client in
        let first = point.pays k is_k in
        let then = moves.pays k b is_k is_b in
        let more = step_counts applied_in part e r in
        omega (arith, first, then, more);
    counts =
        let first = point.counts in
        let then = moves.counts in
        let p = step_counts planned_in part e r in
        let q = step_counts applied_in part e r in
        let s = step_counts dropped_in part e r in
        omega (arith, first, then, p, q, s);
  }

  module _ (points : (m : MemberState) → member_of c u.members ≡ Some m → IsPoint c before part w u a m) where
    -- what is always so of the client
    module _ (m : MemberState) (was : member_of c u.members ≡ Some m) where
      world : IsWorld u
      world = reached_world (before ++ part) u (points m was).reaches

      member : IsMember u.shared world.kind_of m
      member = its_member u world c m was

      plan_moves : (p : Planned) (n : MemberState) → IsIdlePlan p
          → Plans p (turn_at u.shared m) (turn_at v.shared n)
          → GoesTo m n (reply.Plan p)
      plan_moves p n idle (answers, now) =
          let t : Turn = turn_at u.shared m in
          let x : Turn = turn_at v.shared n in
          let point = points m was in
          let planned_so = plans u.shared.entries (planning_of t) (planning_of x) p member.client (can_plan u world c m was)
          (subst (λ edits. fly.IsAlone (same_hash edits) u.shared.entries m.client) (sym point.edits) point.alone) point.ready answers idle in
          let hashes : same_hash u.shared.edits.edits ≡ Same = ap same_hash point.edits in
          let entries : v.shared.entries ≡ u.shared.entries = ap (λ (y : Turn). y.shared.entries) now in
          record {
            edits_are = plan_edits (planning_of t) p (planning_of x) answers;
            alone = subst (λ es. fly.IsAlone Same es n.client) (sym entries)
                (subst (λ same. fly.IsAlone same u.shared.entries n.client) hashes planned_so.alone);
            ready = planned_so.ready;
            pays = subst (λ same. (k b : ℕ) → Carries same m.client k → Carries same n.client b → b + applied_in (reply.Plan p) ≤ k) hashes planned_so.pays;
            counts = let so = planned_so.counts in omega (arith, so);
          }

      done_moves : (number : ℕ) (r : DoneReply) (n : MemberState) → Does (before ++ part) (event.Done c number) (reply.Done r) (turn_at u.shared m) (turn_at v.shared n)
          → GoesTo m n (reply.Done r)
      done_moves number r n (ends, now) =
          let point = points m was in
          let ended = dones Same u.shared.entries number u.shared.ids.next_id m.client n.client u.shared.edits v.shared.edits r world.shared.journal member.at member.client
          (can_plan u world c m was) point.alone point.ready ends in
          let entries : v.shared.entries ≡ u.shared.entries = ap (λ (y : Turn). y.shared.entries) now in
          record {
            edits_are = done_edits number m.client u.shared.edits n.client v.shared.edits r ends;
            alone = subst (λ es. fly.IsAlone Same es n.client) (sym entries) ended.alone;
            ready = ended.ready;
            pays = ended.pays;
            counts = let so = ended.counts in omega (arith, so);
          }

      start_so : (number : ℕ) (r : StartReply) (n : MemberState) → HasBegun r
          → Does (before ++ part) (event.Start c number) (reply.Started r) (turn_at u.shared m) (turn_at v.shared n)
          → GoesTo m n (reply.Started r)
      start_so number r n begun (starts, same) =
          let point = points m was in
          start_moves Same u.shared.edits.edits v.shared.edits.edits u.shared.entries v.shared.entries number m n r (ap (λ s. s.edits.edits) same) (ap (λ s. s.entries) same)
          member.client.numbers point.alone point.ready starts begun

      take_so : (number : ℕ) (r : TakeReply) (n : MemberState) → HasGoneWell r
          → Does (before ++ part) (event.Take c number) (reply.Took r) (turn_at u.shared m) (turn_at v.shared n)
          → GoesTo m n (reply.Took r)
      take_so number r n well takes =
          let point = points m was in
          take_moves Same (turn_at u.shared m) member.client member.at point.alone point.ready member.keys member.made (before ++ part) c number r
          (turn_at v.shared n) well takes

    -- whoever it is of, a mark changes nothing
    mark_point : (d : ℕ) (r : MarkReply) (n : MemberState) → IsTurn (before ++ part) (event.Mark d) (reply.Marked r) u v → member_of c v.members ≡ Some n
        → IsPoint c before (part ++ entry.Stepped (event.Mark d) (reply.Marked r) ∷ []) w v a n
    mark_point d r n turn there =
        let (marks, still) = turn.does in
        let same : turn.after ≡ turn.member = ap (λ (y : Turn). y.member) still in
        let members : v.members ≡ u.members =
        turn.now ∙ ap (λ x. with_member d x u.members) same ∙ member_again d u.members turn.member turn.was in
        let was : member_of c u.members ≡ Some n = subst (λ ms. member_of c ms ≡ Some n) members there in
        let point = points n was in
        moved_point (event.Mark d) (reply.Marked r) n n turn there point
        (still_moves Same u.shared.edits.edits v.shared.edits.edits u.shared.entries v.shared.entries n.client n.client (reply.Marked r)
        (ap (λ (y : Turn). y.shared.edits.edits) still) (ap (λ (y : Turn). y.shared.entries) still) refl (refl, refl, refl) point.alone point.ready)

    -- the client's own turn
    own_turn : (e : Event) (r : Reply) (n : MemberState) → client_of e ≡ c → IsStep (before ++ part) u e r v → IsTurn (before ++ part) e r u v
        → member_of c v.members ≡ Some n
        → ((m k : MemberState) → member_of c u.members ≡ Some m → Does (before ++ part) e r (turn_at u.shared m) (turn_at v.shared k)
        → GoesTo m k r)
        → IsPoint c before (part ++ entry.Stepped e r ∷ []) w v a n
    own_turn e r n is step turn there moves =
        let was : member_of c u.members ≡ Some turn.member = subst (λ d. member_of d u.members ≡ Some turn.member) is turn.was in
        let now : v.members ≡ with_member c turn.after u.members = subst (λ d. v.members ≡ with_member d turn.after u.members) is turn.now in
        let after : member_of c v.members ≡ Some turn.after = subst (λ ms. member_of c ms ≡ Some turn.after) (sym now) (member_there c u.members turn.member turn.after was) in
        let one : turn.after ≡ n = same_Some turn.after n (sym after ∙ there) in
        moved_point e r turn.member n step there (points turn.member was)
        (subst (λ (k : MemberState). GoesTo turn.member k r) one
        (moves turn.member turn.after was turn.does))

    pub next_point : (e : Event) (r : Reply) (n : MemberState) → IsStep (before ++ part) u e r v → left.IsAlone c e r → member_of c v.members ≡ Some n
        → IsPoint c before (part ++ entry.Stepped e r ∷ []) w v a n
    next_point (event.Plan d) (reply.Plan p) n step (is, idle) there =
        own_turn (event.Plan d) (reply.Plan p) n is step step there (λ m k was does. plan_moves m was p k idle does)
    next_point (event.Start d number) (reply.Started r) n step (is, begun) there =
        own_turn (event.Start d number) (reply.Started r) n is step step there (λ m k was does. start_so m was number r k begun does)
    next_point (event.Take d number) (reply.Took r) n step (is, well) there =
        own_turn (event.Take d number) (reply.Took r) n is step step there
        (λ m k was does. take_so m was number r k well
        (subst (λ x. Does (before ++ part) (event.Take x number) (reply.Took r) (turn_at u.shared m) (turn_at v.shared k)) is does))
    next_point (event.Done d number) (reply.Done r) n step is there =
        own_turn (event.Done d number) (reply.Done r) n is step step there (λ m k was does. done_moves m was number r k does)
    next_point (event.Mark d) (reply.Marked r) n step is there = mark_point d r n step there
    next_point (event.Mark d) r n step is there = absurd (step.does)
    next_point e r n step is there = absurd is

-- THE CLIENT IS THERE after each step
own_stays : (c : ℕ) (log : List LogEntry) (u : WorldState) (e : Event) (r : Reply) (v : WorldState) (k : MemberState) → client_of e ≡ c → IsTurn log e r u v
    → member_of c u.members ≡ Some k → (n : MemberState) × (member_of c v.members ≡ Some n)
own_stays c log u e r v k is turn was =
    let now : v.members ≡ with_member c turn.after u.members = subst (λ d. v.members ≡ with_member d turn.after u.members) is turn.now in
    (turn.after, subst (λ ms. member_of c ms ≡ Some turn.after) (sym now) (member_there c u.members k turn.after was))

mark_stays : (c d : ℕ) (log : List LogEntry) (u : WorldState) (r : MarkReply) (v : WorldState) (k : MemberState) → IsTurn log (event.Mark d) (reply.Marked r) u v
    → member_of c u.members ≡ Some k → (n : MemberState) × (member_of c v.members ≡ Some n)
mark_stays c d log u r v k turn was =
    let (marks, still) = turn.does in
    let same : turn.after ≡ turn.member = ap (λ (y : Turn). y.member) still in
    let members : v.members ≡ u.members = turn.now ∙ ap (λ x. with_member d x u.members) same ∙ member_again d u.members turn.member turn.was in
    (k, subst (λ ms. member_of c ms ≡ Some k) (sym members) was)

pub member_stays : (c : ℕ) (log : List LogEntry) (u : WorldState) (e : Event) (r : Reply) (v : WorldState) (k : MemberState) → IsStep log u e r v → left.IsAlone c e r
    → member_of c u.members ≡ Some k → (n : MemberState) × (member_of c v.members ≡ Some n)
member_stays c log u (event.Plan d) (reply.Plan p) v k step (is, idle) was = own_stays c log u (event.Plan d) (reply.Plan p) v k is step was
member_stays c log u (event.Start d number) (reply.Started r) v k step (is, begun) was = own_stays c log u (event.Start d number) (reply.Started r) v k is step was
member_stays c log u (event.Take d number) (reply.Took r) v k step (is, well) was = own_stays c log u (event.Take d number) (reply.Took r) v k is step was
member_stays c log u (event.Done d number) (reply.Done r) v k step is was = own_stays c log u (event.Done d number) (reply.Done r) v k is step was
member_stays c log u (event.Mark d) (reply.Marked r) v k step is was = mark_stays c d log u r v k step was
member_stays c log u (event.Mark d) r v k step is was = absurd (step.does)
member_stays c log u e r v k step is was = absurd is
