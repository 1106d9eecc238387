use Rattle.nuc_step.proofs.Written.{one_end}
use Rattle.nuc_step.proofs.laws.a_done_ends_in_one_way.Goals as goal

pub returns : goal.returns
returns c = one_end
