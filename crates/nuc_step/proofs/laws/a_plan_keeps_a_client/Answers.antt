use Rattle.nuc_step.proofs.Fitting.{plans_keep}
use Rattle.nuc_step.proofs.laws.a_plan_keeps_a_client.Goals as goal

pub returns : goal.returns
returns c = plans_keep
