use Rattle.nuc_run.proofs.Scripted.{clients_run, err_both, fail_cut, failed, on_ok, sync_there}
use Rattle.nuc_run.proofs.commands.run_command.Goals as goal

pub sync-requires : goal.sync-requires
sync-requires g c = sync_there c.args.world.now c.args.command.now c.in-Sync.client c.in-Sync.reverse c.in-Sync.is c.requires

pub returns-in-Clients-clause-ok : goal.returns-in-Clients-clause-ok
returns-in-Clients-clause-ok g c = clients_run c.args.world.now c.args.command.now c.in-Clients.field-0 c.in-Clients.is

pub returns-in-Fail-clause-ok : goal.returns-in-Fail-clause-ok
returns-in-Fail-clause-ok g c =
    on_ok c.fail_at.result (failed c.args.world.now c.fail_at.new.self c.args.command.now c.in-Fail.client c.in-Fail.call c.in-Fail.is c.requires) c.fail_at.ensures.ok

pub returns-in-Fail-clause-err : goal.returns-in-Fail-clause-err
returns-in-Fail-clause-err g c =
    err_both c.fail_at.result (fail_cut c.args.world.now c.fail_at.new.self c.args.command.now c.in-Fail.client c.in-Fail.call c.in-Fail.is c.requires)
    c.fail_at.ensures.err c.fail_at.ensures.why
