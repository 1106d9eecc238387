use Rattle.nuc_measure.proofs.Whole.{plans_lower}
use Rattle.nuc_measure.proofs.laws.a_plan_lowers_the_potential.Goals as goal

pub returns : goal.returns
returns c = plans_lower
