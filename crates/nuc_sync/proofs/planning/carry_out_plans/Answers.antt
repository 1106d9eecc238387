use Rattle.std.proofs.Common.{[], ◌∷◌, Bool, subst}
use Rattle.std.proofs.lemmas.Result.{err_from_is_err_and}
use Rattle.nuc_sync.specs.Runs.{Runs, stays}
use Rattle.nuc_sync.specs.Tasks.{next, plans}
use Rattle.nuc_sync.proofs.Running.{breaks_on, runs_on}
use Rattle.nuc_sync.proofs.planning.carry_out_plans.Goals as goal

pub plans-init : goal.plans-init
plans-init g c = stays c.args.world.now (plans c.args.client c.args.backwards ∷ [])

pub returns-in_err-carry_out_plan-clause-err : goal.returns-in_err-carry_out_plan-clause-err
returns-in_err-carry_out_plan-clause-err g c =
    let ts = plans c.args.client c.args.backwards ∷ [] in
    let p = err_from_is_err_and c.from_residual.result c.from_residual.ensures.1 in
    rw (p.1, p.2) (breaks_on c.args.world.now ts c.plans.world ts c.plans.invariant _ c.carry_out_plan.new.world c.in_err-carry_out_plan.ensures.err)

pub returns-then-not-branch-clause-ok : goal.returns-then-not-branch-clause-ok
returns-then-not-branch-clause-ok g c =
    let ts = plans c.args.client c.args.backwards ∷ [] in
    let v = c.carry_out_plan.new.world in
    let last = subst (λ (b : Bool). Runs c.plans.world ts v (next c.args.client c.args.backwards [] b)) c.if-not-branch.true c.in_ok-carry_out_plan.ensures.ok in
    runs_on c.args.world.now ts c.plans.world ts c.plans.invariant v [] last

pub plans-preserved : goal.plans-preserved
plans-preserved g c =
    let ts = plans c.args.client c.args.backwards ∷ [] in
    let v = c.carry_out_plan.new.world in
    let last = subst (λ (b : Bool). Runs c.plans.world ts v (next c.args.client c.args.backwards [] b)) c.if-not-branch.false c.in_ok-carry_out_plan.ensures.ok in
    runs_on c.args.world.now ts c.plans.world ts c.plans.invariant v ts last
