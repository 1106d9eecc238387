use Rattle.std.proofs.Common.{[], ◌∷◌, true, false, ◌∙◌}
use Rattle.std.specs.Option.{option_copied}
use Rattle.std.proofs.lemmas.Result.{err_from_is_err_and}
use Rattle.nuc_log.specs.declared.event.Event.TheVariants as event
use Rattle.nuc_world.specs.World.{Steps}
use Rattle.nuc_sync.specs.Asked.{has_applied}
use Rattle.nuc_sync.proofs.Carrying.{done_breaks, done_runs, told}
use Rattle.nuc_sync.proofs.planning.carry_out_one.Goals as goal

pub returns-in_err-step-clause-err : goal.returns-in_err-step-clause-err
returns-in_err-step-clause-err g c = λ backwards left.
    let p = err_from_is_err_and c.from_residual-in_err-step.result c.from_residual-in_err-step.ensures.1 in
    let first = c.in_ok-begin.ensures.ok backwards left c.args.applied in
    rw (p.1, p.2) (done_breaks c.args.client backwards c.args.number left c.args.applied c.args.world.now c.begin.new.world first _ c.step.new.self c.in_err-step.ensures.err)

pub returns-then-has_applied-clause-ok : goal.returns-then-has_applied-clause-ok
returns-then-has_applied-clause-ok g c = λ backwards left.
    let u = c.begin.new.world in
    let v = c.step.new.self in
    let first = c.in_ok-begin.ensures.ok backwards left c.args.applied in
    let s : Steps u (event.Done c.args.client c.args.number) v = c.in_ok-step.ensures.ok in
    let last = c.last_reply.ensures.reply u.log (event.Done c.args.client c.args.number) s.reply s.log in
    let applied = told has_applied (option_copied c.last_reply.result) s.reply c.has_applied.result last c.has_applied.ensures ∙ c.if-has_applied.true in
    done_runs c.args.client backwards c.args.number left c.args.applied c.args.world.now u v first s true applied

pub returns-clause-ok : goal.returns-clause-ok
returns-clause-ok g c = λ backwards left.
    let u = c.begin.new.world in
    let v = c.step.new.self in
    let first = c.in_ok-begin.ensures.ok backwards left c.args.applied in
    let s : Steps u (event.Done c.args.client c.args.number) v = c.in_ok-step.ensures.ok in
    let last = c.last_reply.ensures.reply u.log (event.Done c.args.client c.args.number) s.reply s.log in
    let applied = told has_applied (option_copied c.last_reply.result) s.reply c.has_applied.result last c.has_applied.ensures ∙ c.if-has_applied.false in
    done_runs c.args.client backwards c.args.number left c.args.applied c.args.world.now u v first s false applied
