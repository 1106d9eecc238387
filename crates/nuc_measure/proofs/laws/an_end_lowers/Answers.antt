use Rattle.nuc_measure.proofs.Ending.{ends_lower}
use Rattle.nuc_measure.proofs.laws.an_end_lowers.Goals as goal

pub returns : goal.returns
returns c = ends_lower
