use Rattle.nuc_measure.proofs.Carried.{flights_count}
use Rattle.nuc_measure.proofs.laws.flights_count.Goals as goal

pub returns : goal.returns
returns c = flights_count
