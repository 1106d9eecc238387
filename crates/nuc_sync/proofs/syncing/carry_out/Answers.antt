use Rattle.std.proofs.Common.{[], ◌∷◌}
use Rattle.std.proofs.lemmas.Result.{IfErr-weaker, err_from_is_err_and, on_ok_weaker}
use Rattle.nuc_log.specs.declared.event.Event.TheVariants as event
use Rattle.nuc_world.specs.World.{Steps, Stops}
use Rattle.nuc_world.specs.declared.stop.Stop.{Stop}
use Rattle.nuc_sync.specs.Runs.{Breaks}
use Rattle.nuc_sync.specs.Tasks.{once, plans, pulls, restarts, sync_tasks}
use Rattle.nuc_sync.proofs.Running.{breaks_more}
use Rattle.nuc_sync.proofs.Whole.{after_list, after_pulls, after_restart, after_scan, at_list, at_mark, at_plans, at_pulls, at_scan, on_by_step, stops_at_step, stops_in_task}
use Rattle.nuc_sync.proofs.syncing.carry_out.Goals as goal

pub returns-in_err-restart-clause-err : goal.returns-in_err-restart-clause-err
returns-in_err-restart-clause-err g c =
    let p = err_from_is_err_and c.from_residual.result c.from_residual.ensures.1 in
    rw (p.1, p.2) (breaks_more c.args.world.now (restarts c.args.client ∷ []) _ c.restart.new.world c.in_err-restart.ensures.err (after_restart c.args.client c.args.backwards))

pub returns-in_err-step-clause-err : goal.returns-in_err-step-clause-err
returns-in_err-step-clause-err g c =
    let client = c.args.client in
    let backwards = c.args.backwards in
    let w = c.args.world.now in
    let p = err_from_is_err_and c.from_residual-in_err-step.result c.from_residual-in_err-step.ensures.1 in
    rw (p.1, p.2) (stops_at_step w (sync_tasks client backwards) c.restart.new.world (event.List client) (after_list client backwards)
    (at_list client backwards w c.restart.new.world c.in_ok-restart.ensures.ok) _ c.step.new.self c.in_err-step.ensures.err)

pub returns-in_err-step-2-clause-err : goal.returns-in_err-step-2-clause-err
returns-in_err-step-2-clause-err g c =
    let client = c.args.client in
    let backwards = c.args.backwards in
    let w = c.args.world.now in
    let p = err_from_is_err_and c.from_residual-in_err-step-2.result c.from_residual-in_err-step-2.ensures.1 in
    rw (p.1, p.2) (stops_at_step w (sync_tasks client backwards) c.step.new.self (event.Scan client) (after_scan client backwards)
    (at_scan client backwards w c.restart.new.world c.in_ok-restart.ensures.ok c.step.new.self c.in_ok-step.ensures.ok) _ c.step-2.new.self c.in_err-step-2.ensures.err)

pub returns-in_err-pull_all-clause-err : goal.returns-in_err-pull_all-clause-err
returns-in_err-pull_all-clause-err g c =
    let client = c.args.client in
    let backwards = c.args.backwards in
    let w = c.args.world.now in
    let p = err_from_is_err_and c.from_residual-in_err-pull_all.result c.from_residual-in_err-pull_all.ensures.1 in
    rw (p.1, p.2) (stops_in_task w (sync_tasks client backwards) c.step-2.new.self (pulls client) (after_pulls client backwards)
    (at_pulls client backwards w c.restart.new.world c.in_ok-restart.ensures.ok c.step.new.self c.step-2.new.self c.in_ok-step.ensures.ok c.in_ok-step-2.ensures.ok)
    _ c.pull_all.new.world c.in_err-pull_all.ensures.err)

pub returns-in_err-carry_out_plans-clause-err : goal.returns-in_err-carry_out_plans-clause-err
returns-in_err-carry_out_plans-clause-err g c =
    let client = c.args.client in
    let backwards = c.args.backwards in
    let w = c.args.world.now in
    let p = err_from_is_err_and c.from_residual-in_err-carry_out_plans.result c.from_residual-in_err-carry_out_plans.ensures.1 in
    rw (p.1, p.2) (stops_in_task w (sync_tasks client backwards) c.pull_all.new.world (plans client backwards) (once (event.Mark client) ∷ [])
    (at_plans client backwards w c.restart.new.world c.in_ok-restart.ensures.ok c.step.new.self c.step-2.new.self c.pull_all.new.world c.in_ok-step.ensures.ok c.in_ok-step-2.ensures.ok c.in_ok-pull_all.ensures.ok)
    _ c.carry_out_plans.new.world c.in_err-carry_out_plans.ensures.err)

pub returns-clause-ok : goal.returns-clause-ok
returns-clause-ok g c =
    let client = c.args.client in
    let backwards = c.args.backwards in
    let w = c.args.world.now in
    let u = c.carry_out_plans.new.world in
    let v = c.step-3.new.self in
    let first = at_mark client backwards w c.restart.new.world c.in_ok-restart.ensures.ok c.step.new.self c.step-2.new.self c.pull_all.new.world u c.in_ok-step.ensures.ok c.in_ok-step-2.ensures.ok c.in_ok-pull_all.ensures.ok c.in_ok-carry_out_plans.ensures.ok in
    on_ok_weaker c.step-3.result (λ (s : Steps u (event.Mark client) v). on_by_step w (sync_tasks client backwards) u (event.Mark client) [] first v s) c.step-3.ensures.ok

pub returns-clause-err : goal.returns-clause-err
returns-clause-err g c =
    let client = c.args.client in
    let backwards = c.args.backwards in
    let w = c.args.world.now in
    let u = c.carry_out_plans.new.world in
    let v = c.step-3.new.self in
    let first = at_mark client backwards w c.restart.new.world c.in_ok-restart.ensures.ok c.step.new.self c.step-2.new.self c.pull_all.new.world u c.in_ok-step.ensures.ok c.in_ok-step-2.ensures.ok c.in_ok-pull_all.ensures.ok c.in_ok-carry_out_plans.ensures.ok in
    IfErr-weaker c.step-3.result (λ (why : Stop). Stops u (event.Mark client) why v) (λ (why : Stop). Breaks w (sync_tasks client backwards) why v)
    (λ why stops. stops_at_step w (sync_tasks client backwards) u (event.Mark client) [] first why v stops) c.step-3.ensures.err
