use Rattle.nuc_world.proofs.Accounted.{nothing_is_lost}
use Rattle.nuc_world.proofs.nothing_lost.nothing_recorded_is_lost.Goals as goal

pub returns : goal.returns
returns c = nothing_is_lost
