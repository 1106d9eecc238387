use Rattle.nuc_plan.proofs.Cases.{one_plan}
use Rattle.nuc_plan.proofs.laws.one_plan.Goals as goal

pub returns : goal.returns
returns c = one_plan
