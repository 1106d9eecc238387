use Rattle.std.proofs.Common.{[], ◌∷◌}
use Rattle.std.proofs.lemmas.Result.{IfErr-weaker, on_ok_weaker}
use Rattle.nuc_log.specs.declared.event.Event.TheVariants as event
use Rattle.nuc_world.specs.World.{Steps, Stops}
use Rattle.nuc_world.specs.declared.stop.Stop.{Stop}
use Rattle.nuc_sync.specs.Runs.{Breaks}
use Rattle.nuc_sync.specs.Tasks.{restarts}
use Rattle.nuc_sync.proofs.Carrying.{no_restart, restart_breaks, restart_runs}
use Rattle.nuc_sync.proofs.syncing.restart.Goals as goal

pub returns-then-is_flying-clause-ok : goal.returns-then-is_flying-clause-ok
returns-then-is_flying-clause-ok g c =
    let w = c.args.world.now in
    let v = c.step.new.self in
    let some = c.if-is_flying.ensures c.requires.0 c.requires.1 in
    on_ok_weaker c.step.result (λ (s : Steps w (event.Restart c.args.client) v). restart_runs c.args.client w c.requires.0 c.requires.1 some v s) c.step.ensures.ok

pub returns-then-is_flying-clause-err : goal.returns-then-is_flying-clause-err
returns-then-is_flying-clause-err g c =
    let w = c.args.world.now in
    let v = c.step.new.self in
    let some = c.if-is_flying.ensures c.requires.0 c.requires.1 in
    IfErr-weaker c.step.result (λ (stop : Stop). Stops w (event.Restart c.args.client) stop v) (λ (stop : Stop). Breaks w (restarts c.args.client ∷ []) stop v)
    (λ stop stops. restart_breaks c.args.client w c.requires.0 c.requires.1 some stop v stops) c.step.ensures.err

pub returns-clause-ok : goal.returns-clause-ok
returns-clause-ok g c = no_restart c.args.client c.args.world.now c.requires.0 c.requires.1 (c.if-is_flying.ensures c.requires.0 c.requires.1)
