use Rattle.std.proofs.Common.{[], ◌∷◌, refl}
use Rattle.std.specs.Option.{option_copied}
use Rattle.std.proofs.lemmas.Result.{err_from_is_err_and}
use Rattle.nuc_log.specs.declared.event.Event.TheVariants as event
use Rattle.nuc_world.specs.World.{Steps}
use Rattle.nuc_sync.specs.Asked.{has_pulled}
use Rattle.nuc_sync.specs.Tasks.{pulls}
use Rattle.nuc_sync.proofs.Carrying.{pull_runs, told}
use Rattle.nuc_sync.proofs.Running.{step_breaks}
use Rattle.nuc_sync.proofs.syncing.pull.Goals as goal

pub returns-in_err-step-clause-err : goal.returns-in_err-step-clause-err
returns-in_err-step-clause-err g c =
    let p = err_from_is_err_and c.from_residual.result c.from_residual.ensures.1 in
    rw (p.1, p.2) (step_breaks c.args.world.now c.step.new.self (pulls c.args.client) (event.Pull c.args.client) refl _ c.in_err-step.ensures.err [])

pub returns-clause-ok : goal.returns-clause-ok
returns-clause-ok g c =
    let w = c.args.world.now in
    let u = c.step.new.self in
    let s : Steps w (event.Pull c.args.client) u = c.in_ok-step.ensures.ok in
    let last = c.last_reply.ensures.reply w.log (event.Pull c.args.client) s.reply s.log in
    pull_runs c.args.client w u s c.has_pulled.result (told has_pulled (option_copied c.last_reply.result) s.reply c.has_pulled.result last c.has_pulled.ensures)
