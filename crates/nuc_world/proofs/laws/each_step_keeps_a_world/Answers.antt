use Rattle.nuc_world.proofs.Kept.{steps_keep_worlds}
use Rattle.nuc_world.proofs.laws.each_step_keeps_a_world.Goals as goal

pub returns : goal.returns
returns c = steps_keep_worlds
