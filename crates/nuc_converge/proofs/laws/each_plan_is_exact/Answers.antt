use Rattle.nuc_converge.proofs.Exact.{each_plan_is_exact}
use Rattle.nuc_converge.proofs.laws.each_plan_is_exact.Goals as goal

pub returns : goal.returns
returns c = each_plan_is_exact
