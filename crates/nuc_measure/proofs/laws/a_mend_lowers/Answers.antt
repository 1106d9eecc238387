use Rattle.nuc_measure.proofs.Mending.{mends_lower}
use Rattle.nuc_measure.proofs.laws.a_mend_lowers.Goals as goal

pub returns : goal.returns
returns c = mends_lower
