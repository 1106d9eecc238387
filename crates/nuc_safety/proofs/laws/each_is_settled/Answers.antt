use Rattle.nuc_safety.proofs.Taking.{settled}
use Rattle.nuc_safety.proofs.laws.each_is_settled.Goals as goal

pub returns : goal.returns
returns c = settled
