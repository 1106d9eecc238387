use Rattle.std.proofs.Common.{[], ◌∷◌, Bool, refl}
use Rattle.std.specs.Option.{option_copied}
use Rattle.std.proofs.lemmas.Result.{IfErr-weaker, IfOk-weaker, err_from_is_err_and}
use Rattle.nuc_log.specs.declared.event.Event.TheVariants as event
use Rattle.nuc_world.specs.World.{Steps}
use Rattle.nuc_world.specs.declared.stop.Stop.{Stop}
use Rattle.nuc_world.specs.declared.stop.Stop.TheVariants as stop
use Rattle.nuc_sync.specs.Asked.{Advances, asked_tasks}
use Rattle.nuc_sync.specs.Runs.{Breaks, Runs}
use Rattle.nuc_sync.specs.Tasks.{more, next, plans}
use Rattle.nuc_sync.proofs.Carrying.{plan_runs}
use Rattle.nuc_sync.proofs.Growing.{step_advances}
use Rattle.nuc_sync.proofs.Running.{breaks_at, breaks_on, runs_on, step_breaks, step_to, stops_for_memory}
use Rattle.nuc_sync.proofs.planning.carry_out_plan.Goals as goal

pub returns-in_err-step-clause-err : goal.returns-in_err-step-clause-err
returns-in_err-step-clause-err g c =
    let p = err_from_is_err_and c.from_residual.result c.from_residual.ensures.1 in
    rw (p.1, p.2) (step_breaks c.args.world.now c.step.new.self (plans c.args.client c.args.backwards) (event.Plan c.args.client) refl _ c.in_err-step.ensures.err [])

pub returns-in-Ok-clause-ok : goal.returns-in-Ok-clause-ok
returns-in-Ok-clause-ok g c =
    let client = c.args.client in
    let backwards = c.args.backwards in
    let w = c.args.world.now in
    let u = c.step.new.self in
    let v = c.follow.new.world in
    let ts = asked_tasks client backwards c.in-Ok.asked in
    let s : Steps w (event.Plan client) u = c.in_ok-step.ensures.ok in
    let last = c.last_reply.ensures.reply w.log (event.Plan client) s.reply s.log in
    let first = plan_runs client backwards w u s (option_copied c.last_reply.result) c.in-Ok.asked last c.in-Ok.ensures in
    IfOk-weaker c.follow.result (λ (again : Bool). Runs u ts v (next client backwards [] again)) (λ (again : Bool). Runs w (plans client backwards ∷ []) v (next client backwards [] again))
    (λ again after. runs_on w (plans client backwards ∷ []) u ts first v (next client backwards [] again) after) c.follow.ensures.ok

pub returns-in-Ok-clause-longer : goal.returns-in-Ok-clause-longer
returns-in-Ok-clause-longer g c =
    let client = c.args.client in
    let backwards = c.args.backwards in
    let w = c.args.world.now in
    let u = c.step.new.self in
    let v = c.follow.new.world in
    let ts = asked_tasks client backwards c.in-Ok.asked in
    let s : Steps w (event.Plan client) u = c.in_ok-step.ensures.ok in
    IfOk-weaker c.follow.result (λ (again : Bool). Runs u ts v (next client backwards [] again)) (λ (again : Bool). Advances w v)
    (λ again after. step_advances w (event.Plan client) u s c.last_reply.ensures.few ts v (next client backwards [] again) after) c.follow.ensures.ok

pub returns-in-Ok-clause-err : goal.returns-in-Ok-clause-err
returns-in-Ok-clause-err g c =
    let client = c.args.client in
    let backwards = c.args.backwards in
    let w = c.args.world.now in
    let u = c.step.new.self in
    let v = c.follow.new.world in
    let ts = asked_tasks client backwards c.in-Ok.asked in
    let s : Steps w (event.Plan client) u = c.in_ok-step.ensures.ok in
    let last = c.last_reply.ensures.reply w.log (event.Plan client) s.reply s.log in
    let first = plan_runs client backwards w u s (option_copied c.last_reply.result) c.in-Ok.asked last c.in-Ok.ensures in
    IfErr-weaker c.follow.result (λ (stop : Stop). Breaks u ts stop v) (λ (stop : Stop). Breaks w (plans client backwards ∷ []) stop v)
    (λ stop after. breaks_on w (plans client backwards ∷ []) u ts first stop v after) c.follow.ensures.err

pub returns-in-Err-clause-err : goal.returns-in-Err-clause-err
returns-in-Err-clause-err g c =
    let t = plans c.args.client c.args.backwards in
    let w = c.args.world.now in
    let u = c.step.new.self in
    let s : Steps w (event.Plan c.args.client) u = c.in_ok-step.ensures.ok in
    let left = more t s.reply in
    breaks_on w (t ∷ []) u left (step_to w u t (event.Plan c.args.client) refl s left refl) stop.Memory u (breaks_at u left stop.Memory u (stops_for_memory left u))
