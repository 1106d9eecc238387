use Rattle.nuc_step.proofs.ReadyPlans.{batch_is_ready}
use Rattle.nuc_step.proofs.order.a_batch_is_ready.Goals as goal

pub returns : goal.returns
returns c = batch_is_ready
