use Rattle.nuc_observe.proofs.Made.{makes_local}
use Rattle.nuc_observe.proofs.laws.scan_makes_local.Goals as goal

pub returns : goal.returns
returns c = makes_local
