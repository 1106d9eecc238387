use Rattle.nuc_plan.proofs.Cases.{batches_in_every_order}
use Rattle.nuc_plan.proofs.laws.a_batch_in_every_order.Goals as goal

pub returns : goal.returns
returns c = batches_in_every_order
