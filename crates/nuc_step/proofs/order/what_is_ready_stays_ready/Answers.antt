use Rattle.nuc_step.proofs.StaysReady.{ready_stays_ready}
use Rattle.nuc_step.proofs.order.what_is_ready_stays_ready.Goals as goal

pub returns : goal.returns
returns c = ready_stays_ready
