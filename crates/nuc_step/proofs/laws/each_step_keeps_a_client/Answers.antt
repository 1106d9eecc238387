use Rattle.nuc_step.proofs.Steady.{steps_keep}
use Rattle.nuc_step.proofs.laws.each_step_keeps_a_client.Goals as goal

pub returns : goal.returns
returns c = steps_keep
