-- A plan is empty exactly where there is nothing to do.
use Rattle.std.proofs.Common.{◌≡◌, ◌<◌, ◌↔◌, ℕ, List, [], length, refl, sym, ap, ◌∙◌, subst, arith}
use Rattle.std.proofs.lemmas.Option.{same_Some}
use Rattle.nuc_base.specs.Trees.{Nodes}
use Rattle.nuc_edits.specs.Edits.{same_hash}
use Rattle.nuc_flights.specs.Flights.{Flight}
use Rattle.nuc_plan.specs.declared.plans.Plan.{Plan}
use Rattle.nuc_plan.specs.declared.plans.Plan.TheVariants as plan
use Rattle.nuc_plan.proofs.Cases.{empty_where_equal}
use Rattle.nuc_step.specs.Client.{ClientState}
use Rattle.nuc_step.specs.Planning.{IsPlanOf, PlanAnswers, Planning}
use Rattle.nuc_step.specs.declared.answers.Planned.{Planned}
use Rattle.nuc_step.specs.declared.answers.Planned.TheVariants as answer
use Rattle.nuc_world.specs.Marks.{IsQuiet}
use Rattle.nuc_world.specs.State.{MemberState}
use Rattle.nuc_world.specs.Step.{planning_of}
use Rattle.nuc_converge.specs.Laws.{EachPlanIsExact}

-- a plan of the three trees, where they are equal
equal_plan : (p : Planning) (a : Plan) → IsQuiet p.client → IsPlanOf p a → a ≡ plan.Empty
equal_plan p a quiet is =
    (empty_where_equal (same_hash p.recorded.edits) p.client.remote.tree p.client.local.tree p.client.synced p.next_id a is.1).1
    (quiet.remote ∙ sym quiet.local, quiet.local)

quiet_where_empty : (p q : Planning) → PlanAnswers p answer.Empty q → IsQuiet p.client
quiet_where_empty p q is =
    let equal = (empty_where_equal (same_hash p.recorded.edits) p.client.remote.tree p.client.local.tree p.client.synced p.next_id plan.Empty is.0.1).0 refl in
    record { landed = is.0.0; remote = equal.0 ∙ equal.1; local = equal.1 }

none_flies : (fs : List Flight) → fs ≡ [] → 0 < length fs → ⊥
none_flies fs none some = absurd (omega (arith, ap length none, some))

empty_where_quiet : (p q : Planning) (a : Planned) → PlanAnswers p a q → IsQuiet p.client → a ≡ answer.Empty
empty_where_quiet p q answer.Empty is quiet = refl
empty_where_quiet p q (answer.Booked shown) is quiet = let none = equal_plan p (plan.Booked is.op) quiet is.plan in cc
empty_where_quiet p q (answer.Batch shown) is quiet = let none = equal_plan p (plan.Batch is.ops) quiet is.plan in cc
empty_where_quiet p q (answer.Mend shown) is quiet = let none = equal_plan p (plan.Mend is.op) quiet is.plan in cc
empty_where_quiet p q (answer.Busy k) is quiet = absurd (none_flies p.client.flights quiet.landed (subst (λ n. 0 < n) is.1 is.0))

exact : (p q : Planning) (a : Planned) → PlanAnswers p a q → (a ≡ answer.Empty) ↔ IsQuiet p.client
exact p q a is = ((λ empty. quiet_where_empty p q (subst (λ b. PlanAnswers p b q) empty is)), empty_where_quiet p q a is)

pub each_plan_is_exact : EachPlanIsExact
each_plan_is_exact log w v c p m step was =
    let before : Planning = planning_of (record { shared = w.shared; member = step.member }) in
    let after : Planning = planning_of (record { shared = v.shared; member = step.after }) in
    let same : step.member ≡ m = same_Some step.member m (sym step.was ∙ was) in
    subst (λ (n : MemberState). (p ≡ answer.Empty) ↔ IsQuiet n.client) same (exact before after p step.does.0)
