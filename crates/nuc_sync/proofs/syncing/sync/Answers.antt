use Rattle.std.proofs.lemmas.Result.{IfErr-weaker}
use Rattle.std.proofs.Common.{◌≢◌}
use Rattle.nuc_world.specs.declared.stop.Stop.{Stop}
use Rattle.nuc_world.specs.declared.stop.Stop.TheVariants as stop
use Rattle.nuc_sync.specs.Runs.{Breaks}
use Rattle.nuc_sync.specs.Tasks.{sync_tasks}
use Rattle.nuc_sync.proofs.Whole.{client_known, ends_keep_members}
use Rattle.nuc_sync.proofs.syncing.sync.Goals as goal

pub returns-clause-known : goal.returns-clause-known
returns-clause-known g c =
    let w = c.args.world.now in
    let v = c.carry_out.new.world in
    IfErr-weaker c.carry_out.result (λ (why : Stop). Breaks w (sync_tasks c.args.client c.args.backwards) why v) (λ (why : Stop). why ≢ stop.NoClient)
    (λ why breaks. client_known c.args.client c.args.backwards w c.requires.0 c.requires.1 why v breaks) c.carry_out.ensures.err

pub returns-clause-members : goal.returns-clause-members
returns-clause-members g c = ends_keep_members c.carry_out.result c.args.world.now (sync_tasks c.args.client c.args.backwards) c.carry_out.new.world c.carry_out.ensures.ok c.carry_out.ensures.err
