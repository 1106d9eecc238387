use Rattle.nuc_safety.proofs.Batches.{in_every_order}
use Rattle.nuc_safety.proofs.laws.a_batch_in_every_order.Goals as goal

pub returns : goal.returns
returns c = in_every_order
