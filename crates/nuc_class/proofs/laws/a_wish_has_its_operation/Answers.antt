use Rattle.nuc_class.proofs.Rows.{wish_has_operation}
use Rattle.nuc_class.proofs.laws.a_wish_has_its_operation.Goals as goal

pub returns : goal.returns
returns c = wish_has_operation
