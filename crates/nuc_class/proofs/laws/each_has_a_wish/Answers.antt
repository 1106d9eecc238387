use Rattle.nuc_class.proofs.Rows.{some_wish}
use Rattle.nuc_class.proofs.laws.each_has_a_wish.Goals as goal

pub returns : goal.returns
returns c = some_wish
