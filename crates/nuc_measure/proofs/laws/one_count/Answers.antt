use Rattle.nuc_measure.proofs.Counting.{one_count}
use Rattle.nuc_measure.proofs.laws.one_count.Goals as goal

pub returns : goal.returns
returns c = one_count
