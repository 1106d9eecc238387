use Rattle.nuc_base.proofs.InTurn.{every_order}
use Rattle.nuc_base.proofs.laws.every_order.Goals as goal

pub returns : goal.returns
returns c = every_order
