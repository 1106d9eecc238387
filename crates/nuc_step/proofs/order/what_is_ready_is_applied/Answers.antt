use Rattle.nuc_step.proofs.Ready.{done_leaves}
use Rattle.nuc_step.proofs.order.what_is_ready_is_applied.Goals as goal

pub returns : goal.returns
returns c = λ n c d e f r ready ends. (done_leaves n c d e f r ready ends).2
