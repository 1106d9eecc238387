use Rattle.nuc_world.proofs.OneStep.{one_end}
use Rattle.nuc_world.proofs.laws.each_step_has_one_end.Goals as goal

pub returns : goal.returns
returns c = one_end
