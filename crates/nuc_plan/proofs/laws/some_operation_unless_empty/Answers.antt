use Rattle.nuc_plan.proofs.Cases.{some_operation}
use Rattle.nuc_plan.proofs.laws.some_operation_unless_empty.Goals as goal

pub returns : goal.returns
returns c = some_operation
