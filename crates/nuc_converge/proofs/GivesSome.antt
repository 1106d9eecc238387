-- Each plan of a client that is left alone gives an operation, but for the empty one.
use Rattle.std.proofs.Common.{◌≡◌, ◌≢◌, ◌<◌, List, [], ◌∷◌, length, refl, ap, ◌∙◌, arith}
use Rattle.nuc_class.specs.declared.op.Op.{Op}
use Rattle.nuc_edits.specs.Edits.{same_hash}
use Rattle.nuc_plan.proofs.Cases.{some_operation}
use Rattle.nuc_plan.specs.declared.plans.Plan.TheVariants as plans
use Rattle.nuc_step.specs.Planning.{IsLaunched, PlanAnswers, Planning}
use Rattle.nuc_step.specs.declared.answers.Planned.{Planned}
use Rattle.nuc_step.specs.declared.answers.Planned.TheVariants as plan
use Rattle.nuc_step.proofs.Flying.{length_numbered}
use Rattle.nuc_world.specs.Step.{planning_of}
use Rattle.nuc_converge.specs.Alone.{IsIdlePlan}
use Rattle.nuc_converge.specs.Laws.{EachPlanGivesSome, GivesSome}

some_of : (ops : List Op) → ops ≢ [] → 0 < length ops
some_of [] some = absurd (some refl)
some_of (op ∷ ops) some = omega arith

-- a batch isn't empty
batch_some : (p : Planning) (shown : List Op) (q : Planning) → IsLaunched p shown q → 0 < length shown
batch_some p shown q launched =
    let some = some_of launched.ops (λ none.
    let empty = some_operation (same_hash p.recorded.edits) p.client.remote.tree p.client.local.tree p.client.synced p.next_id
    (plans.Batch launched.ops) launched.plan.1 none in
    absurd (cc)) in
    let long : length shown ≡ length launched.ops = ap (λ (ops : List Op). length ops) launched.is ∙ length_numbered p.client.next_op p.client.remote launched.ops in
    omega (arith, some, long)

gives_some : (p : Planning) (answer : Planned) (q : Planning) → PlanAnswers p answer q → IsIdlePlan answer → GivesSome answer
gives_some p plan.Empty q answers idle = λ some. absurd (some refl)
gives_some p (plan.Booked op) q answers idle = λ some. omega arith
gives_some p (plan.Batch ops) q answers idle = λ some. batch_some p ops q answers
gives_some p (plan.Mend op) q answers idle = λ some. omega arith
gives_some p (plan.Busy k) q answers idle = absurd idle

pub each_plan_gives_some : EachPlanGivesSome
each_plan_gives_some log w v c p step (is, idle) =
    gives_some (planning_of (record { shared = w.shared; member = step.member })) p (planning_of (record { shared = v.shared; member = step.after })) step.does.0 idle
