use Rattle.nuc_class.proofs.Rows.{one_wish}
use Rattle.nuc_class.proofs.laws.each_has_one_wish.Goals as goal

pub returns : goal.returns
returns c = one_wish
