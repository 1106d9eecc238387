-- A plan has one answer, and leads to one client.
use Rattle.std.proofs.Common.{◌≡◌, ◌<◌, ◌+◌, [], ℕ, List, length, refl, sym, ◌∙◌, ap, subst, inl, inr, arith}
use Rattle.std.specs.FinMap.{get}
use Rattle.nuc_base.specs.Changes.{changed}
use Rattle.nuc_base.specs.Renamed.{IsRenamed}
use Rattle.nuc_base.specs.Trees.{Nodes}
use Rattle.nuc_base.specs.declared.change.Change.{Change}
use Rattle.nuc_base.specs.declared.change.Change.TheVariants.{Keep, Put, Cut}
use Rattle.nuc_base.specs.declared.node.Node.{Node}
use Rattle.nuc_base.proofs.Maps.{same_nodes, same_or_not}
use Rattle.nuc_class.specs.declared.op.Effect.{Effect}
use Rattle.nuc_class.specs.declared.op.Effect.TheVariants as effect
use Rattle.nuc_class.specs.declared.op.Op.{Op}
use Rattle.nuc_class.specs.declared.op.Verb.{Verb}
use Rattle.nuc_class.specs.declared.op.Verb.TheVariants as verb
use Rattle.nuc_conflict.specs.After.{ComesFor}
use Rattle.nuc_edits.specs.Edits.{Recorded, same_hash}
use Rattle.nuc_folder.specs.declared.outcome.Outcome.TheVariants as outcome
use Rattle.nuc_plan.specs.declared.plans.Plan.{Plan}
use Rattle.nuc_plan.specs.declared.plans.Plan.TheVariants as plan
use Rattle.nuc_plan.proofs.Cases.{one_plan}
use Rattle.nuc_replica.specs.Local.{LocalState, moved_key}
use Rattle.nuc_step.specs.Client.{ClientState}
use Rattle.nuc_step.specs.Planning.{CanPlan, CountsChange, IsAdopted, IsBooked, IsLaunched, IsMended, IsMendedAtOnce, IsNoted, IsPlanOf, MendFlies, MendGoes, PlanAnswers, Planning, numbered_one}
use Rattle.nuc_step.specs.Steps.{after_fly, local_after, numbered}
use Rattle.nuc_step.specs.declared.answers.Planned.{Planned}
use Rattle.nuc_step.specs.declared.answers.Planned.TheVariants as answer
use Rattle.nuc_world.proofs.OneWatch.{changes_one}

planning_one : (p q : Planning) → p.client ≡ q.client → p.recorded ≡ q.recorded → p.next_id ≡ q.next_id → p ≡ q
planning_one p q client recorded next = λ i. record { client = client i; recorded = recorded i; next_id = next i }

-- A TREE in which an identity has another number
renamed_one : (m : Nodes) (y x : ℕ) (node : Node) (k j : Nodes) → IsRenamed m y x node k → IsRenamed m y x node j → k ≡ j
renamed_one m y x node k j is was = same_nodes k j (λ w. elim (same_or_not w x) [
  | inl same ↦ subst (λ z. get k z ≡ get j z) (sym same) (is.came ∙ sym was.came)
  | inr off ↦ elim (same_or_not w y) [
    | inl same ↦ subst (λ z. get k z ≡ get j z) (sym same) (is.gone ∙ sym was.gone)
    | inr apart ↦ is.others w off apart ∙ sym (was.others w off apart)
  ]
])

comes_one : (m : Nodes) (y x : ℕ) (change : Change) (k j : Nodes) → ComesFor m y x change k → ComesFor m y x change j → k ≡ j
comes_one m y x (Put node) k j a b = renamed_one m y x node k j a b
comes_one m y x Keep k j a b = absurd a
comes_one m y x Cut k j a b = absurd a

-- WHAT TAKES PLACE AT ONCE
abbrev noted : Op → ClientState → ℕ → ClientState
noted op c changes = record c { local = local_after op outcome.Ok c.local; synced = changed c.synced op.id.0 op.synced; changes = changes; next_op = c.next_op + 1 }

abbrev adopted : Op → ClientState → Nodes → ClientState
adopted op c tree = record c {
  local = record { tree = tree; keys = moved_key c.local.keys op.other.0 op.id.0 (get c.local.keys op.other.0) };
  changes = c.changes + 1;
  next_op = c.next_op + 1;
}

module _ (op : Op) (c d b : ClientState) (e f g : Recorded) where
  noted_one : IsNoted op c e d f → IsNoted op c e b g → (d ≡ b) × (f ≡ g)
  noted_one is was =
      let local : d.local ≡ b.local = ap (λ (z : ClientState). z.local) is.client ∙ sym (ap (λ (z : ClientState). z.local) was.client) in
      let moved : CountsChange c.local.tree b.local.tree c.changes d.changes = subst (λ (l : LocalState). CountsChange c.local.tree l.tree c.changes d.changes) local is.changes in
      let count = changes_one c.local.tree b.local.tree c.changes d.changes b.changes moved was.changes in
      (is.client ∙ ap (λ z. noted op c z) count ∙ sym was.client, is.recorded ∙ sym was.recorded)

  adopted_one : IsAdopted op c e d f → IsAdopted op c e b g → (d ≡ b) × (f ≡ g)
  adopted_one is was =
      let tree = comes_one c.local.tree op.other.0 op.id.0 op.local d.local.tree b.local.tree is.tree was.tree in
      (is.client ∙ ap (λ (z : Nodes). adopted op c z) tree ∙ sym was.client, is.recorded ∙ sym was.recorded)

  at_once_one : (v : Verb) → IsMendedAtOnce v op c e d f → IsMendedAtOnce v op c e b g → (d ≡ b) × (f ≡ g)
  at_once_one verb.Adopt is was = adopted_one is was
  at_once_one _ is was = noted_one is was

module _ (op : Op) (p q s : Planning) where
  flies_one : MendFlies op p q → MendFlies op p s → q ≡ s
  flies_one is was = planning_one q s (is.client ∙ sym was.client) (is.recorded ∙ sym was.recorded) (is.next_id ∙ sym was.next_id)

  goes_one : (e : Effect) → MendGoes e op p q → MendGoes e op p s → q ≡ s
  goes_one effect.Nothing (is, next) (was, stays) =
      let one = at_once_one op p.client q.client s.client p.recorded q.recorded s.recorded op.verb is was in
      planning_one q s one.0 one.1 (next ∙ sym stays)
  goes_one effect.Disk is was = flies_one is was
  goes_one effect.Commit is was = flies_one is was

module _ (p q s : Planning) (can : CanPlan p.client p.next_id) where
  same_plan : (a b : Plan) → IsPlanOf p a → IsPlanOf p b → a ≡ b
  same_plan a b x y = one_plan (same_hash p.recorded.edits) p.client.remote.tree p.client.local.tree p.client.synced p.next_id a b can.fit.remote can.fit.local can.fit.synced x.1 y.1

  not_busy : (k : ℕ) → p.client.flights ≡ [] → 0 < k → k ≡ length p.client.flights → ⊥
  not_busy k landed some count = let none = ap length landed in omega (arith, some, count, none)

  booked_one : (a b : Op) → IsBooked p a q → IsBooked p b s → (a ≡ b) × (q ≡ s)
  booked_one a b is was =
      let plans : plan.Booked is.op ≡ plan.Booked was.op = same_plan _ _ is.plan was.plan in
      let op : is.op ≡ was.op = cc in
      let noted = subst (λ (o : Op). IsNoted o p.client p.recorded q.client q.recorded) op is.noted in
      let one = noted_one was.op p.client q.client s.client p.recorded q.recorded s.recorded noted was.noted in
      (is.is ∙ ap (λ (o : Op). numbered_one p.client.next_op p.client.remote o) op ∙ sym was.is, planning_one q s one.0 one.1 (is.next_id ∙ sym was.next_id))

  launched_one : (a b : List Op) → IsLaunched p a q → IsLaunched p b s → (a ≡ b) × (q ≡ s)
  launched_one a b is was =
      let plans : plan.Batch is.ops ≡ plan.Batch was.ops = same_plan _ _ is.plan was.plan in
      let ops : is.ops ≡ was.ops = cc in (
        is.is ∙ ap (λ (o : List Op). numbered p.client.next_op p.client.remote o) ops ∙ sym was.is,
        planning_one q s (is.client ∙ ap (λ (o : List Op). after_fly o p.client) ops ∙ sym was.client) (is.recorded ∙ sym was.recorded) (is.next_id ∙ sym was.next_id),
      )

  mended_one : (a b : Op) → IsMended p a q → IsMended p b s → (a ≡ b) × (q ≡ s)
  mended_one a b is was =
      let plans : plan.Mend is.op ≡ plan.Mend was.op = same_plan _ _ is.plan was.plan in
      let op : is.op ≡ was.op = cc in
      let goes = subst (λ (o : Op). MendGoes o.effect o p q) op is.goes in
      (is.is ∙ ap (λ (o : Op). numbered_one p.client.next_op p.client.remote o) op ∙ sym was.is, goes_one was.op p q s was.op.effect goes was.goes)

  pub plan_one : (a b : Planned) → PlanAnswers p a q → PlanAnswers p b s → (a ≡ b) × (q ≡ s)
  plan_one answer.Empty answer.Empty x y = (refl, x.1 ∙ sym y.1)
  plan_one answer.Empty (answer.Booked b) x y = absurd (let bad : plan.Empty ≡ plan.Booked y.op = same_plan _ _ x.0 y.plan in cc)
  plan_one answer.Empty (answer.Batch b) x y = absurd (let bad : plan.Empty ≡ plan.Batch y.ops = same_plan _ _ x.0 y.plan in cc)
  plan_one answer.Empty (answer.Mend b) x y = absurd (let bad : plan.Empty ≡ plan.Mend y.op = same_plan _ _ x.0 y.plan in cc)
  plan_one answer.Empty (answer.Busy k) x y = absurd (not_busy k x.0.0 y.0 y.1)
  plan_one (answer.Booked a) answer.Empty x y = absurd (let bad : plan.Booked x.op ≡ plan.Empty = same_plan _ _ x.plan y.0 in cc)
  plan_one (answer.Booked a) (answer.Booked b) x y = let one = booked_one a b x y in (ap answer.Booked one.0, one.1)
  plan_one (answer.Booked a) (answer.Batch b) x y = absurd (let bad : plan.Booked x.op ≡ plan.Batch y.ops = same_plan _ _ x.plan y.plan in cc)
  plan_one (answer.Booked a) (answer.Mend b) x y = absurd (let bad : plan.Booked x.op ≡ plan.Mend y.op = same_plan _ _ x.plan y.plan in cc)
  plan_one (answer.Booked a) (answer.Busy k) x y = absurd (not_busy k x.plan.0 y.0 y.1)
  plan_one (answer.Batch a) answer.Empty x y = absurd (let bad : plan.Batch x.ops ≡ plan.Empty = same_plan _ _ x.plan y.0 in cc)
  plan_one (answer.Batch a) (answer.Booked b) x y = absurd (let bad : plan.Batch x.ops ≡ plan.Booked y.op = same_plan _ _ x.plan y.plan in cc)
  plan_one (answer.Batch a) (answer.Batch b) x y = let one = launched_one a b x y in (ap answer.Batch one.0, one.1)
  plan_one (answer.Batch a) (answer.Mend b) x y = absurd (let bad : plan.Batch x.ops ≡ plan.Mend y.op = same_plan _ _ x.plan y.plan in cc)
  plan_one (answer.Batch a) (answer.Busy k) x y = absurd (not_busy k x.plan.0 y.0 y.1)
  plan_one (answer.Mend a) answer.Empty x y = absurd (let bad : plan.Mend x.op ≡ plan.Empty = same_plan _ _ x.plan y.0 in cc)
  plan_one (answer.Mend a) (answer.Booked b) x y = absurd (let bad : plan.Mend x.op ≡ plan.Booked y.op = same_plan _ _ x.plan y.plan in cc)
  plan_one (answer.Mend a) (answer.Batch b) x y = absurd (let bad : plan.Mend x.op ≡ plan.Batch y.ops = same_plan _ _ x.plan y.plan in cc)
  plan_one (answer.Mend a) (answer.Mend b) x y = let one = mended_one a b x y in (ap answer.Mend one.0, one.1)
  plan_one (answer.Mend a) (answer.Busy k) x y = absurd (not_busy k x.plan.0 y.0 y.1)
  plan_one (answer.Busy k) answer.Empty x y = absurd (not_busy k y.0.0 x.0 x.1)
  plan_one (answer.Busy k) (answer.Booked b) x y = absurd (not_busy k y.plan.0 x.0 x.1)
  plan_one (answer.Busy k) (answer.Batch b) x y = absurd (not_busy k y.plan.0 x.0 x.1)
  plan_one (answer.Busy k) (answer.Mend b) x y = absurd (not_busy k y.plan.0 x.0 x.1)
  plan_one (answer.Busy k) (answer.Busy j) x y = (ap answer.Busy (x.1 ∙ sym y.1), x.2 ∙ sym y.2)
