use Rattle.std.proofs.Common.{[], ◌∷◌, Option, Bool, List, ℕ, true, false, refl, ◌∙◌}
use Rattle.std.specs.Option.{option_copied}
use Rattle.std.proofs.lemmas.Result.{IfErr-weaker, err_from_is_err_and, on_ok_weaker}
use Rattle.nuc_log.specs.declared.event.Event.TheVariants as event
use Rattle.nuc_world.specs.World.{Steps, Stops}
use Rattle.nuc_world.specs.declared.stop.Stop.{Stop}
use Rattle.nuc_sync.specs.Asked.{has_begun}
use Rattle.nuc_sync.specs.Runs.{Breaks, Runs}
use Rattle.nuc_sync.specs.Tasks.{begins, takes}
use Rattle.nuc_sync.proofs.Carrying.{start_runs, take_breaks, take_runs, told}
use Rattle.nuc_sync.proofs.Running.{step_breaks}
use Rattle.nuc_sync.proofs.planning.begin.Goals as goal

pub returns-in_err-step-clause-err : goal.returns-in_err-step-clause-err
returns-in_err-step-clause-err g c = λ backwards left applied.
    let p = err_from_is_err_and c.from_residual.result c.from_residual.ensures.1 in
    rw (p.1, p.2) (step_breaks c.args.world.now c.step.new.self (begins c.args.client backwards c.args.number left applied) (event.Start c.args.client c.args.number) refl _ c.in_err-step.ensures.err [])

pub returns-then-has_begun-clause-ok : goal.returns-then-has_begun-clause-ok
returns-then-has_begun-clause-ok g c = λ backwards left applied.
    let w = c.args.world.now in
    let u = c.step.new.self in
    let v = c.step-then-has_begun.new.self in
    let s : Steps w (event.Start c.args.client c.args.number) u = c.in_ok-step.ensures.ok in
    let last = c.last_reply.ensures.reply w.log (event.Start c.args.client c.args.number) s.reply s.log in
    let begun = told has_begun (option_copied c.last_reply.result) s.reply c.has_begun.result last c.has_begun.ensures ∙ c.if-has_begun.true in
    let first = start_runs c.args.client backwards c.args.number left applied w u s true begun in
    on_ok_weaker c.step-then-has_begun.result (λ (t : Steps u (event.Take c.args.client c.args.number) v). take_runs c.args.client backwards c.args.number left applied w u v first t) c.step-then-has_begun.ensures.ok

pub returns-then-has_begun-clause-err : goal.returns-then-has_begun-clause-err
returns-then-has_begun-clause-err g c = λ backwards left applied.
    let w = c.args.world.now in
    let u = c.step.new.self in
    let v = c.step-then-has_begun.new.self in
    let s : Steps w (event.Start c.args.client c.args.number) u = c.in_ok-step.ensures.ok in
    let last = c.last_reply.ensures.reply w.log (event.Start c.args.client c.args.number) s.reply s.log in
    let begun = told has_begun (option_copied c.last_reply.result) s.reply c.has_begun.result last c.has_begun.ensures ∙ c.if-has_begun.true in
    let first = start_runs c.args.client backwards c.args.number left applied w u s true begun in
    IfErr-weaker c.step-then-has_begun.result (λ (stop : Stop). Stops u (event.Take c.args.client c.args.number) stop v) (λ (stop : Stop). Breaks w (begins c.args.client backwards c.args.number left applied ∷ []) stop v)
    (λ stop stops. take_breaks c.args.client backwards c.args.number left applied w u first stop v stops) c.step-then-has_begun.ensures.err

pub returns-clause-ok : goal.returns-clause-ok
returns-clause-ok g c = λ backwards left applied.
    let w = c.args.world.now in
    let u = c.step.new.self in
    let s : Steps w (event.Start c.args.client c.args.number) u = c.in_ok-step.ensures.ok in
    let last = c.last_reply.ensures.reply w.log (event.Start c.args.client c.args.number) s.reply s.log in
    let begun = told has_begun (option_copied c.last_reply.result) s.reply c.has_begun.result last c.has_begun.ensures ∙ c.if-has_begun.false in
    start_runs c.args.client backwards c.args.number left applied w u s false begun
