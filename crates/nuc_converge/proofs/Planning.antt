-- A client that is left alone stays so at a plan, and what it carries pays for what takes place at once.
use Rattle.std.proofs.Common.{◌≡◌, List, refl, sym, ap, subst, ◌∙◌, arith}
use Rattle.nuc_class.specs.declared.op.Effect.{Effect}
use Rattle.nuc_class.specs.declared.op.Effect.TheVariants as effect
use Rattle.nuc_class.specs.declared.op.Op.{Op}
use Rattle.nuc_edits.specs.Edits.{same_hash}
use Rattle.nuc_journal.specs.declared.entry.Entry.{Entry}
use Rattle.nuc_measure.proofs.Bounds.{one_total}
use Rattle.nuc_measure.specs.Potential.{no_flight, points}
use Rattle.nuc_plan.specs.declared.plans.Plan.TheVariants as plan
use Rattle.nuc_step.specs.Order.{IsReady}
use Rattle.nuc_step.specs.Planning.{CanPlan, IsPlanOf, MendGoes, Planning}
use Rattle.nuc_step.specs.declared.answers.Planned.TheVariants as answer
use Rattle.nuc_converge.specs.Counts.{at_once}
use Rattle.nuc_converge.proofs.Booking.{booked_alone, mended_alone}
use Rattle.nuc_converge.proofs.Grounded.{grounded_carries}
use Rattle.nuc_converge.proofs.InFlight.{IsAlone}
use Rattle.nuc_converge.proofs.Launched.{launched_alone}
use Rattle.nuc_converge.proofs.Mending.{flying_alone}
use Rattle.nuc_converge.proofs.Parts.{HasPlanned, PlansStayAlone}

-- AN EMPTY PLAN changes nothing
empty_alone : (entries : List Entry) (p : Planning) → IsAlone (same_hash p.recorded.edits) entries p.client → IsReady p.client → IsPlanOf p plan.Empty
    → HasPlanned (same_hash p.recorded.edits) entries p.client p.client answer.Empty
empty_alone entries p is ready idle =
    let c = p.client in
    let same = same_hash p.recorded.edits in record {
      alone = is;
      ready = ready;
      pays = λ a b is_a is_b.
          let one : a ≡ b = one_total c.remote.tree c.local.tree c.synced (points same no_flight c.remote.tree c.local.tree c.synced) a b
          (grounded_carries same c a idle.0 is_a) (grounded_carries same c b idle.0 is_b) in
          omega (arith, one);
      counts = refl;
    }

-- A MEND, by its effect
mend_goes : (entries : List Entry) (p q : Planning) (op shown : Op) → CanPlan p.client p.next_id → IsAlone (same_hash p.recorded.edits) entries p.client
    → IsPlanOf p (plan.Mend op) → shown.effect ≡ op.effect → (e : Effect) → op.effect ≡ e → MendGoes e op p q
    → HasPlanned (same_hash p.recorded.edits) entries p.client q.client (answer.Mend shown)
mend_goes entries p q op shown can is of_plan alike effect.Nothing named goes = mended_alone p q op can of_plan named entries shown alike is goes.0
mend_goes entries p q op shown can is of_plan alike effect.Disk named goes =
    flying_alone p q op shown entries can is of_plan (λ e. let clash : effect.Disk ≡ effect.Nothing = sym named ∙ e in cc) (ap at_once (alike ∙ named)) goes
mend_goes entries p q op shown can is of_plan alike effect.Commit named goes =
    flying_alone p q op shown entries can is of_plan (λ e. let clash : effect.Commit ≡ effect.Nothing = sym named ∙ e in cc) (ap at_once (alike ∙ named)) goes

pub plans_stay_alone : PlansStayAlone
plans_stay_alone entries p q answer.Empty client can is ready (idle, stays) some =
    subst (λ (t : Planning). HasPlanned (same_hash p.recorded.edits) entries p.client t.client answer.Empty) (sym stays) (empty_alone entries p is ready idle)
plans_stay_alone entries p q (answer.Booked shown) client can is ready it some = booked_alone p q it.op can entries shown is it.plan it.noted
plans_stay_alone entries p q (answer.Batch shown) client can is ready it some = launched_alone p q shown entries can is it
plans_stay_alone entries p q (answer.Mend shown) client can is ready it some =
    mend_goes entries p q it.op shown can is it.plan (ap (λ (o : Op). o.effect) it.is) it.op.effect refl it.goes
plans_stay_alone entries p q (answer.Busy k) client can is ready it some = absurd some
