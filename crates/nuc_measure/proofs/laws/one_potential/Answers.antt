use Rattle.nuc_measure.proofs.Carried.{potential_of}
use Rattle.nuc_measure.proofs.laws.one_potential.Goals as goal

pub returns : goal.returns
returns c = potential_of
