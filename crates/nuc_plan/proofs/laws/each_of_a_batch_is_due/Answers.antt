use Rattle.nuc_plan.proofs.Cases.{each_is_due}
use Rattle.nuc_plan.proofs.laws.each_of_a_batch_is_due.Goals as goal

pub returns : goal.returns
returns c = each_is_due
