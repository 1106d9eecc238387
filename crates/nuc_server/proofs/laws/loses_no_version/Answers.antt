use Rattle.nuc_server.proofs.NothingLost.{nothing_lost}
use Rattle.nuc_server.proofs.laws.loses_no_version.Goals as goal

pub returns : goal.returns
returns c = nothing_lost
