use Rattle.nuc_plan.proofs.Cases.{empty_where_equal}
use Rattle.nuc_plan.proofs.laws.empty_where_equal.Goals as goal

pub returns : goal.returns
returns c = empty_where_equal
