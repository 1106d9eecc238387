use Rattle.std.proofs.Common.{arith, rules}
use Rattle.nuc_step.proofs.Landed.{local_put}
use Rattle.nuc_step.proofs.landing.write_one.Goals as goal

pub returns-in-Put-Made-clause-changed : goal.returns-in-Put-Made-clause-changed
returns-in-Put-Made-clause-changed g c =
    let put = c.add_laid.ensures in
    local_put c.args.op.now.number 1 c.args.local.now c.add_laid.new.self (omega arith) put.changed put.laid

pub returns-in-Put-default : goal.returns-in-Put-default
returns-in-Put-default g c =
    let put = c.put_laid.ensures in
    record {
      now = search rules;
      changed = local_put c.args.op.now.number 1 c.args.local.now c.put_laid.new.self (omega arith) put.changed put.laid;
    }
