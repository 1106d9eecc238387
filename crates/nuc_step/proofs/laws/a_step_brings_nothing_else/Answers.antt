use Rattle.nuc_step.proofs.Bringing.{steps_bring_nothing_else}
use Rattle.nuc_step.proofs.laws.a_step_brings_nothing_else.Goals as goal

pub returns : goal.returns
returns c = steps_bring_nothing_else
