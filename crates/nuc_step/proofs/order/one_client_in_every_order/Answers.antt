use Rattle.nuc_step.proofs.AnyOrder.{one_client_in_every_order}
use Rattle.nuc_step.proofs.order.one_client_in_every_order.Goals as goal

pub returns : goal.returns
returns c = one_client_in_every_order
