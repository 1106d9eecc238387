use Rattle.std.proofs.Common.{arith}
use Rattle.nuc_step.proofs.Landed.{local_put}
use Rattle.nuc_step.proofs.landing.write_local.Goals as goal

pub returns-then-eq-clause-changed : goal.returns-then-eq-clause-changed
returns-then-eq-clause-changed g c =
    let handed = c.hand_over.ensures in
    local_put c.args.op.now.number 2 c.args.local.now c.hand_over.new.self (omega arith) handed.changed handed.laid
