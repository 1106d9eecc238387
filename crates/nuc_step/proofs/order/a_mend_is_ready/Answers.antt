use Rattle.nuc_step.proofs.ReadyPlans.{mend_is_ready}
use Rattle.nuc_step.proofs.order.a_mend_is_ready.Goals as goal

pub returns : goal.returns
returns c = mend_is_ready
