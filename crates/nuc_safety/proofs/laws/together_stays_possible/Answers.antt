use Rattle.nuc_safety.proofs.Pairs.{possible_after}
use Rattle.nuc_safety.proofs.laws.together_stays_possible.Goals as goal

pub returns : goal.returns
returns c = possible_after
