use Rattle.nuc_measure.proofs.Carried.{carried_of}
use Rattle.nuc_measure.proofs.laws.one_carried.Goals as goal

pub returns : goal.returns
returns c = carried_of
