-- Where there are no two lists of bytes with one SHA-256, a part of a log in which a client is left alone drops nothing, and plans
-- at most 6 operations for each identity that differs.
use Rattle.std.specs.Prelude.{All, sum_by}
use Rattle.std.proofs.Common.{◌≡◌, ◌+◌, ◌++◌, ℕ, List, [], ◌∷◌, Some, refl, sym, ◌∙◌, ap, subst, inl, inr, arith}
use Rattle.std.proofs.lemmas.List.Sums.{sum_by_push}
use Rattle.std.proofs.lemmas.Option.{same_Some}
use Rattle.nuc_flights.specs.Flights.{started}
use Rattle.nuc_log.specs.declared.event.Event.{Event}
use Rattle.nuc_log.specs.declared.event.Event.TheVariants as event
use Rattle.nuc_log.specs.declared.log.LogEntry.{LogEntry}
use Rattle.nuc_log.specs.declared.log.LogEntry.TheVariants as entry
use Rattle.nuc_log.specs.declared.reply.Reply.{Reply}
use Rattle.nuc_log.specs.declared.reply.Reply.TheVariants as reply
use Rattle.nuc_log.specs.declared.reply.MarkReply.{MarkReply}
use Rattle.nuc_log.specs.declared.reply.StartReply.{StartReply}
use Rattle.nuc_log.specs.declared.reply.TakeReply.{TakeReply}
use Rattle.nuc_log.specs.declared.reply.TakeReply.TheVariants as took
use Rattle.nuc_step.specs.Client.{ClientState}
use Rattle.nuc_transfer.specs.Transfer.{Collision}
use Rattle.nuc_world.specs.Starts.{Starts}
use Rattle.nuc_world.specs.State.{MemberState, Turn, WorldState, member_of, with_member}
use Rattle.nuc_world.specs.Step.{Does, IsStep, IsTurn, client_of, planning_of}
use Rattle.nuc_world.proofs.Items.{all_first, all_front, all_rest}
use Rattle.nuc_converge.specs.Alone as left
use Rattle.nuc_converge.specs.Alone.{HasBegun, IsRested, LeftAlone}
use Rattle.nuc_converge.specs.Alone.LeftAlone.{begins, goes}
use Rattle.nuc_converge.specs.Counts.{dropped, dropped_in, of_entry}
use Rattle.nuc_converge.specs.Laws.{FewUnlessCollision, IsNoRefusal, NoneIsRefused}
use Rattle.nuc_converge.proofs.Parts.{DonesStayAlone, PlansStayAlone}
use Rattle.nuc_converge.proofs.Starting.{starts_so}
use Rattle.nuc_converge.proofs.Stepping.{member_again, member_there}
use Rattle.nuc_converge.proofs.Undropped.{AllGoWell, GoesWell, NotRefused, done_well, plan_well, same_well, staged_well, take_well}
use Rattle.nuc_converge.proofs.Whole.{few_are_planned, still_there}

-- THE LAST of a list, and those before it
pub all_before : {X : Type 0} (P : X → Type 0) (xs : List X) (x : X) → All P (xs ++ x ∷ []) → All P xs × P x
all_before P [] x all = (λ k d below. absurd (omega (arith, below)), all_first P x [] all)
all_before P (y ∷ ys) x all =
    let (before, last) = all_before P ys x (all_rest P y (ys ++ x ∷ []) all) in
    (all_front P y ys (all_first P y (ys ++ x ∷ []) all) before, last)

not_refused : (e : Event) (r : TakeReply) → ¬ Collision → IsNoRefusal (entry.Stepped e (reply.Took r)) → NotRefused r
not_refused e (took.Refused why) none is = absurd (none is)
not_refused e (took.Folder ran) none is = tt
not_refused e (took.Accepted rev) none is = tt
not_refused e took.NoSuchOp none is = tt

-- a Start leaves what flies, or starts one of it
start_well : (n : ℕ) (m : MemberState) (r : StartReply) (u : MemberState) → HasBegun r → AllGoWell m.client → Starts n m r u → AllGoWell u.client
start_well n m r u begun well starts = elim (starts_so n m r u begun starts) [
  | inl still ↦ same_well m.client u.client well (ap (λ (x : ClientState). x.flights) still)
  | inr (at, is) ↦ staged_well m.client u.client n started well tt (ap (λ (x : ClientState). x.flights) is)
]

-- WHAT A STEP LEAVES: all that flies goes well, and nothing is dropped
pub record StaysWell (n : MemberState) (r : Reply) : Type 0 where
  pub well : AllGoWell n.client
  pub none : dropped_in r ≡ 0

module _ (c : ℕ) (log : List LogEntry) (u v : WorldState) (none : ¬ Collision) (points : (m : MemberState) → member_of c u.members ≡ Some m → AllGoWell m.client) where
  own_well : (e : Event) (r : Reply) (n : MemberState) → client_of e ≡ c → IsTurn log e r u v → member_of c v.members ≡ Some n
      → ((m k : MemberState) → AllGoWell m.client → Does log e r (record { shared = u.shared; member = m }) (record { shared = v.shared; member = k }) → StaysWell k r)
      → StaysWell n r
  own_well e r n is turn there stays =
      let was : member_of c u.members ≡ Some turn.member = subst (λ d. member_of d u.members ≡ Some turn.member) is turn.was in
      let now : v.members ≡ with_member c turn.after u.members = subst (λ d. v.members ≡ with_member d turn.after u.members) is turn.now in
      let after : member_of c v.members ≡ Some turn.after = subst (λ ms. member_of c ms ≡ Some turn.after) (sym now) (member_there c u.members turn.member turn.after was) in
      let one : turn.after ≡ n = same_Some turn.after n (sym after ∙ there) in
      subst (λ (k : MemberState). StaysWell k r) one (stays turn.member turn.after (points turn.member was) turn.does)

  mark_well : (d : ℕ) (r : MarkReply) (n : MemberState) → IsTurn log (event.Mark d) (reply.Marked r) u v → member_of c v.members ≡ Some n → StaysWell n (reply.Marked r)
  mark_well d r n turn there =
      let (marks, still) = turn.does in
      let same : turn.after ≡ turn.member = ap (λ (y : Turn). y.member) still in
      let members : v.members ≡ u.members = turn.now ∙ ap (λ x. with_member d x u.members) same ∙ member_again d u.members turn.member turn.was in
      record { well = points n (subst (λ ms. member_of c ms ≡ Some n) members there); none = refl }

  step_well : (e : Event) (r : Reply) (n : MemberState) → IsStep log u e r v → left.IsAlone c e r → IsNoRefusal (entry.Stepped e r)
      → member_of c v.members ≡ Some n → StaysWell n r
  step_well (event.Plan d) (reply.Plan p) n step (is, idle) fine there = own_well (event.Plan d) (reply.Plan p) n is step there (λ m k well does. record {
    well = plan_well (planning_of (record { shared = u.shared; member = m })) p (planning_of (record { shared = v.shared; member = k })) well does.0;
    none = refl;
  })
  step_well (event.Start d number) (reply.Started r) n step (is, begun) fine there = own_well (event.Start d number) (reply.Started r) n is step there (λ m k well does. record {
    well = start_well number m r k begun well does.0;
    none = refl;
  })
  step_well (event.Take d number) (reply.Took r) n step (is, gone) fine there = own_well (event.Take d number) (reply.Took r) n is step there (λ m k well does. record {
    well = take_well (record { shared = u.shared; member = m }) log d number r (record { shared = v.shared; member = k }) gone
        (not_refused (event.Take d number) r none fine) well does;
    none = refl;
  })
  step_well (event.Done d number) (reply.Done r) n step is fine there = own_well (event.Done d number) (reply.Done r) n is step there (λ m k well does.
      let ends = done_well number m.client u.shared.edits k.client v.shared.edits well r does.0 in record { well = ends.well; none = ends.none })
  step_well (event.Mark d) (reply.Marked r) n step is fine there = mark_well d r n step there
  step_well (event.Mark d) r n step is fine there = absurd (step.does)
  step_well e r n step is fine there = absurd is

-- THE WHOLE PART
pub record IsUndropped (part : List LogEntry) (n : MemberState) : Type 0 where
  pub well : AllGoWell n.client
  pub none : dropped part ≡ 0

module _ (c : ℕ) (before : List LogEntry) (w : WorldState) (m : MemberState) (rested : IsRested c w m) (none : ¬ Collision) where
  pub undropped : (part : List LogEntry) (v : WorldState) → LeftAlone c before w part v → All IsNoRefusal part → (n : MemberState) → member_of c v.members ≡ Some n
      → IsUndropped part n
  undropped _ _ begins fine n there =
      let one : m ≡ n = same_Some m n (sym rested.was ∙ there) in
      subst (IsUndropped []) one (record { well = subst (All (λ f. GoesWell f.stage)) (sym rested.landed) (λ k d below. absurd (omega (arith, below))); none = refl })
  undropped _ _ (goes part u e r v left step is) fine n there =
      let (first, last) = all_before IsNoRefusal part (entry.Stepped e r) fine in
      let stays = step_well c (before ++ part) u v none (λ k was. (undropped part u left first k was).well) e r n step is last there in
      let (k, was) = still_there c before w m rested part u left in
      let so_far = (undropped part u left first k was).none in
      let more : sum_by (of_entry dropped_in) (part ++ entry.Stepped e r ∷ []) ≡ sum_by (of_entry dropped_in) part + dropped_in r =
      sum_by_push (of_entry dropped_in) part (entry.Stepped e r) in
      let now = stays.none in
      record { well = stays.well; none = omega (arith, so_far, more, now) }

pub few_unless_collision : PlansStayAlone → DonesStayAlone → NoneIsRefused → FewUnlessCollision
few_unless_collision plans dones unrefused c before part w v m d reaches rested left differ none =
    let (n, there) = still_there c before w m rested part v left in
    let undropped_so = (undropped c before w m rested none part v left (unrefused c before part w v m reaches rested left) n there).none in
    let few = few_are_planned plans dones c before part w v m d reaches rested left differ in
    omega (arith, undropped_so, few)
