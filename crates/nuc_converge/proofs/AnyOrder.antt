-- Every order of a batch ends alike: two parts of a log in which a client is left alone, each with one plan, the same, leave the
-- same three trees.
use Rattle.std.specs.Prelude.{All}
use Rattle.std.proofs.Common.{◌≡◌, ◌++◌, ℕ, Bool, List, [], ◌∷◌, Some, refl, sym, ◌∙◌, ap, subst}
use Rattle.std.proofs.lemmas.List.{append-nil}
use Rattle.std.proofs.lemmas.Option.{same_Some}
use Rattle.nuc_base.specs.Trees.{Nodes}
use Rattle.nuc_class.specs.declared.op.Op.{Op}
use Rattle.nuc_edits.specs.Edits.{same_hash}
use Rattle.nuc_flights.specs.Flights.{Flight}
use Rattle.nuc_log.specs.declared.event.Event.{Event}
use Rattle.nuc_log.specs.declared.event.Event.TheVariants as event
use Rattle.nuc_log.specs.declared.log.LogEntry.{LogEntry}
use Rattle.nuc_log.specs.declared.log.LogEntry.TheVariants as entry
use Rattle.nuc_log.specs.declared.reply.MarkReply.{MarkReply}
use Rattle.nuc_log.specs.declared.reply.Reply.{Reply}
use Rattle.nuc_log.specs.declared.reply.Reply.TheVariants as reply
use Rattle.nuc_measure.proofs.Carried.{potential_of}
use Rattle.nuc_step.specs.declared.answers.Planned.{Planned}
use Rattle.nuc_step.specs.declared.reply.DoneReply.{DoneReply}
use Rattle.nuc_transfer.specs.Transfer.{Collision}
use Rattle.nuc_world.specs.Form.{IsMember, IsWorld}
use Rattle.nuc_world.specs.Parts.{turn_at}
use Rattle.nuc_world.specs.Runs.{Reaches}
use Rattle.nuc_world.specs.State.{MemberState, Turn, WorldState, member_of, with_member}
use Rattle.nuc_world.specs.Step.{Does, IsStep, IsTurn, client_of, planning_of}
use Rattle.nuc_world.proofs.Grown.{its_member}
use Rattle.nuc_world.proofs.Reached.{reached_world}
use Rattle.nuc_world.proofs.Ready.{can_plan}
use Rattle.nuc_converge.specs.Alone as left
use Rattle.nuc_converge.specs.Alone.{IsIdlePlan, IsRested, LeftAlone}
use Rattle.nuc_converge.specs.Alone.LeftAlone.{begins, goes}
use Rattle.nuc_converge.specs.Laws.{BatchesEndAlike, HasPotential, HoldsOneBatch, IsNoPlan, NoneIsRefused, SameTrees}
use Rattle.nuc_converge.proofs.OnePlan.{plans_alike}
use Rattle.nuc_converge.proofs.Orders.{EndsAs, all_made, as_back, as_both, as_itself, on_local, on_remote, on_synced}
use Rattle.nuc_converge.proofs.Parts.{DonesStayAlone, EntriesCome, PlansStayAlone}
use Rattle.nuc_converge.proofs.Point.{IsPoint}
use Rattle.nuc_converge.proofs.Progress.{done_ends_as, start_ends_as, take_ends_as}
use Rattle.nuc_converge.proofs.Stepping.{member_again, member_there}
use Rattle.nuc_converge.proofs.Undropped.{AllGoWell}
use Rattle.nuc_converge.proofs.Unrefused.{all_before, undropped}
use Rattle.nuc_converge.proofs.Whole.{each_point}

-- A LIST with one more behind it isn't empty
not_empty : {X : Type 0} (xs : List X) (x : X) → xs ++ x ∷ [] ≡ [] → ⊥
not_empty [] x is = cc
not_empty (y ∷ ys) x is = cc

none_yet : (c : ℕ) (before : List LogEntry) (w : WorldState) (part : List LogEntry) (v : WorldState) → LeftAlone c before w part v → part ≡ [] → v ≡ w
none_yet c before w _ _ begins is = refl
none_yet c before w _ _ (goes part u e r v left step alone) is = absurd (not_empty part (entry.Stepped e r) is)

nothing_first : {X : Type 0} (x : X) (xs : List X) → [] ≡ x ∷ xs → ⊥
nothing_first x xs is = cc

-- WHAT EACH STEP KEEPS holds at the end
along : (c : ℕ) (before : List LogEntry) (w : WorldState) (P : List LogEntry → WorldState → Type 0) → P [] w
    → ((part : List LogEntry) (u : WorldState) (e : Event) (r : Reply) (v : WorldState) → LeftAlone c before w part u → IsStep (before ++ part) u e r v
    → left.IsAlone c e r → P part u → P (part ++ entry.Stepped e r ∷ []) v)
    → (part : List LogEntry) (v : WorldState) → LeftAlone c before w part v → P part v
along c before w P start on _ _ begins = start
along c before w P start on _ _ (goes part u e r v so_far step alone) = on part u e r v so_far step alone (along c before w P start on part u so_far)

-- THE CLIENT BEFORE A STEP, and its trees come to what they come to behind it
record CameFrom (c : ℕ) (u : WorldState) (n : MemberState) : Type 0 where
  member : MemberState
  was : member_of c u.members ≡ Some member
  ends : EndsAs member.client n.client

module _ (c : ℕ) (log : List LogEntry) (u v : WorldState) where
  own_came : (e : Event) (r : Reply) (n : MemberState) → client_of e ≡ c → IsTurn log e r u v → member_of c v.members ≡ Some n
      → ((k j : MemberState) → member_of c u.members ≡ Some k → Does log e r (turn_at u.shared k) (turn_at v.shared j) → EndsAs k.client j.client)
      → CameFrom c u n
  own_came e r n is turn there ends =
      let was : member_of c u.members ≡ Some turn.member = subst (λ d. member_of d u.members ≡ Some turn.member) is turn.was in
      let now : v.members ≡ with_member c turn.after u.members = subst (λ d. v.members ≡ with_member d turn.after u.members) is turn.now in
      let after : member_of c v.members ≡ Some turn.after =
      subst (λ ms. member_of c ms ≡ Some turn.after) (sym now) (member_there c u.members turn.member turn.after was) in
      let one : turn.after ≡ n = same_Some turn.after n (sym after ∙ there) in
      record {
        member = turn.member;
        was = was;
        ends = subst (λ (k : MemberState). EndsAs turn.member.client k.client) one (ends turn.member turn.after was turn.does);
      }

  -- whoever it is of, a mark changes nothing
  mark_came : (d : ℕ) (r : MarkReply) (n : MemberState) → IsTurn log (event.Mark d) (reply.Marked r) u v → member_of c v.members ≡ Some n → CameFrom c u n
  mark_came d r n turn there =
      let (marks, still) = turn.does in
      let same : turn.after ≡ turn.member = ap (λ (y : Turn). y.member) still in
      let members : v.members ≡ u.members = turn.now ∙ ap (λ x. with_member d x u.members) same ∙ member_again d u.members turn.member turn.was in
      record { member = n; was = subst (λ ms. member_of c ms ≡ Some n) members there; ends = as_itself n.client }

module _ (come : EntriesCome) (plans : PlansStayAlone) (dones : DonesStayAlone) (unrefused : NoneIsRefused) (c : ℕ) (before : List LogEntry) (w : WorldState)
    (m : MemberState) (reaches : Reaches before w) (rested : IsRested c w m) (none : ¬ Collision) where
  abbrev Same : ℕ → ℕ → Bool
  Same = same_hash w.shared.edits.edits

  -- EACH STEP but a plan
  module _ (part : List LogEntry) (u : WorldState) (so_far : LeftAlone c before w part u) where
    module _ (k : MemberState) (was : member_of c u.members ≡ Some k) where
      first : (a : ℕ) × HasPotential w.shared m a
      first = (potential_of Same m.client.remote.tree m.client.local.tree m.client.synced).some

      point : IsPoint c before part w u first.0 k
      point = each_point c before w m first.0 reaches rested first.1 plans dones part u so_far k was

      well : AllGoWell k.client
      well = (undropped c before w m rested none part u so_far (unrefused c before part w u m reaches rested so_far) k was).well

      world : IsWorld u
      world = reached_world (before ++ part) u point.reaches

      member : IsMember u.shared world.kind_of k
      member = its_member u world c k was

      done_came : (v : WorldState) (number : ℕ) (r : DoneReply) (j : MemberState)
          → Does (before ++ part) (event.Done c number) (reply.Done r) (turn_at u.shared k) (turn_at v.shared j) → EndsAs k.client j.client
      done_came v number r j (ends, now) =
          done_ends_as come Same u.shared.entries number u.shared.ids.next_id k.client world.shared.journal member.at member.client
          (can_plan u world c k was) point.ready point.alone well j.client u.shared.edits v.shared.edits r ends

    step_came : (v : WorldState) (e : Event) (r : Reply) (n : MemberState) → IsStep (before ++ part) u e r v → left.IsAlone c e r → IsNoPlan (entry.Stepped e r)
        → member_of c v.members ≡ Some n → CameFrom c u n
    step_came v (event.Plan d) (reply.Plan p) n step alone other there = absurd other
    step_came v (event.Start d number) (reply.Started r) n step (is, begun) other there =
        own_came c (before ++ part) u v (event.Start d number) (reply.Started r) n is step there (λ k j was does. start_ends_as number k r j begun does.0)
    step_came v (event.Take d number) (reply.Took r) n step (is, _) other there =
        own_came c (before ++ part) u v (event.Take d number) (reply.Took r) n is step there
        (λ k j was does. take_ends_as (turn_at u.shared k) (before ++ part) d number r (turn_at v.shared j) does)
    step_came v (event.Done d number) (reply.Done r) n step is other there =
        own_came c (before ++ part) u v (event.Done d number) (reply.Done r) n is step there (λ k j was does. done_came k was v number r j does)
    step_came v (event.Mark d) (reply.Marked r) n step is other there = mark_came c (before ++ part) u v d r n step there
    step_came v (event.Mark d) r n step is other there = absurd (step.does)
    step_came v e r n step is other there = absurd is

  module _ (p : Planned) where
    abbrev first_entry : LogEntry
    first_entry = entry.Stepped (event.Plan c) (reply.Plan p)

    -- THE CLIENT BEHIND THE PLAN, and its trees come to what they come to here
    record IsBehindPlan (n : MemberState) : Type 0 where
      world : WorldState
      step : IsStep before w (event.Plan c) (reply.Plan p) world
      idle : IsIdlePlan p
      member : MemberState
      was : member_of c world.members ≡ Some member
      ends : EndsAs member.client n.client

    abbrev ComesOfPlan : List LogEntry → WorldState → Type 0
    ComesOfPlan part v = (rest : List LogEntry) → part ≡ first_entry ∷ rest → All IsNoPlan rest → (n : MemberState) → member_of c v.members ≡ Some n → IsBehindPlan n

    the_plan : (u : WorldState) (e : Event) (r : Reply) (v : WorldState) → LeftAlone c before w [] u → IsStep (before ++ []) u e r v → left.IsAlone c e r
        → ComesOfPlan (entry.Stepped e r ∷ []) v
    the_plan u e r v so_far step alone rest is fine n there =
        let of_plan : e ≡ event.Plan c = cc in
        let answer : r ≡ reply.Plan p = cc in
        let here : IsStep before w e r v =
        subst (λ x. IsStep before x e r v) (none_yet c before w [] u so_far refl) (subst (λ log. IsStep log u e r v) (append-nil before) step) in
        let planned : IsStep before w (event.Plan c) (reply.Plan p) v =
        subst (λ x. IsStep before w (event.Plan c) x v) answer (subst (λ x. IsStep before w x r v) of_plan here) in
        let idle : left.IsAlone c (event.Plan c) (reply.Plan p) =
        subst (λ x. left.IsAlone c (event.Plan c) x) answer (subst (λ x. left.IsAlone c x r) of_plan alone) in
        record { world = v; step = planned; idle = idle.1; member = n; was = there; ends = as_itself n.client }

    more : (part : List LogEntry) (u : WorldState) (e : Event) (r : Reply) (v : WorldState) → LeftAlone c before w part u → IsStep (before ++ part) u e r v
        → left.IsAlone c e r → ComesOfPlan part u → ComesOfPlan (part ++ entry.Stepped e r ∷ []) v
    more [] u e r v so_far step alone earlier = the_plan u e r v so_far step alone
    more (y ∷ ys) u e r v so_far step alone earlier = λ rest is fine n there.
        let head : y ≡ first_entry = cc in
        let tail : ys ++ entry.Stepped e r ∷ [] ≡ rest = cc in
        let (rest_fine, last) = all_before IsNoPlan ys (entry.Stepped e r) (subst (All IsNoPlan) (sym tail) fine) in
        let came = step_came (y ∷ ys) u so_far v e r n step alone last there in
        let so = earlier ys (ap (λ x. x ∷ ys) head) rest_fine came.member came.was in
        record {
          world = so.world;
          step = so.step;
          idle = so.idle;
          member = so.member;
          was = so.was;
          ends = as_both so.member.client came.member.client n.client so.ends came.ends;
        }

    comes_of_plan : (part : List LogEntry) (v : WorldState) → LeftAlone c before w part v → ComesOfPlan part v
    comes_of_plan = along c before w ComesOfPlan (λ rest is fine n there. absurd (nothing_first first_entry rest is)) more

    of_batch : (part : List LogEntry) (v : WorldState) (n : MemberState) → HoldsOneBatch c before w p part v n → IsBehindPlan n
    of_batch part v n holds = comes_of_plan part v holds.alone holds.rest holds.first holds.no_other n holds.was

    -- THE TWO, behind one plan
    module _ (n k : MemberState) (one : IsBehindPlan n) (two : IsBehindPlan k) where
      after_turn : (u : WorldState) (turn : IsTurn before (event.Plan c) (reply.Plan p) w u) (j : MemberState) → member_of c u.members ≡ Some j
          → (turn.member ≡ m) × (turn.after ≡ j)
      after_turn u turn j was =
          let after : member_of c u.members ≡ Some turn.after =
          subst (λ ms. member_of c ms ≡ Some turn.after) (sym turn.now) (member_there c w.members turn.member turn.after turn.was) in
          (same_Some turn.member m (sym turn.was ∙ rested.was), same_Some turn.after j (sym after ∙ was))

      planned_so : (u : WorldState) (step : IsTurn before (event.Plan c) (reply.Plan p) w u) (j : MemberState) → member_of c u.members ≡ Some j
          → Does before (event.Plan c) (reply.Plan p) (turn_at w.shared m) (turn_at u.shared j)
      planned_so u turn j was =
          let (is_m, is_j) = after_turn u turn j was in
          subst (λ x. Does before (event.Plan c) (reply.Plan p) (turn_at w.shared x) (turn_at u.shared j)) is_m
          (subst (λ x. Does before (event.Plan c) (reply.Plan p) (turn_at w.shared turn.member) (turn_at u.shared x)) is_j turn.does)

      planned_alike : EndsAs one.member.client two.member.client
      planned_alike =
          plans_alike (planning_of (turn_at w.shared m)) (planning_of (turn_at one.world.shared one.member))
          (planning_of (turn_at two.world.shared two.member)) p one.idle
          (planned_so one.world one.step one.member one.was).0 (planned_so two.world two.step two.member two.was).0

      ends_alike : EndsAs n.client k.client
      ends_alike =
          as_both n.client one.member.client k.client (as_back one.member.client n.client one.ends)
          (as_both one.member.client two.member.client k.client planned_alike two.ends)

-- where nothing flies, the trees are what they come to
landed_tree : (make : Op → Nodes → Nodes) (fs gs : List Flight) (t o : Nodes) → fs ≡ [] → gs ≡ [] → all_made make fs t ≡ all_made make gs o → t ≡ o
landed_tree make fs gs t o none no_other is = sym (ap (λ hs. all_made make hs t) none) ∙ is ∙ ap (λ hs. all_made make hs o) no_other

same_trees : (n k : MemberState) → n.client.flights ≡ [] → k.client.flights ≡ [] → EndsAs n.client k.client → SameTrees n k
same_trees n k none no_other is = record {
  remote = landed_tree on_remote n.client.flights k.client.flights n.client.remote.tree k.client.remote.tree none no_other is.remote;
  local = landed_tree on_local n.client.flights k.client.flights n.client.local.tree k.client.local.tree none no_other is.local;
  synced = landed_tree on_synced n.client.flights k.client.flights n.client.synced k.client.synced none no_other is.synced;
}

pub batches_end_alike : EntriesCome → PlansStayAlone → DonesStayAlone → NoneIsRefused → BatchesEndAlike
batches_end_alike come plans dones unrefused c before part other w v u m n k p reaches rested one two none =
    same_trees n k one.landed two.landed
    (ends_alike come plans dones unrefused c before w m reaches rested none p n k
    (of_batch come plans dones unrefused c before w m reaches rested none p part v n one)
    (of_batch come plans dones unrefused c before w m reaches rested none p other u k two))
