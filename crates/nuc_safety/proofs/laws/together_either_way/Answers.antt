use Rattle.nuc_safety.proofs.Pairs.{together-sym}
use Rattle.nuc_safety.proofs.laws.together_either_way.Goals as goal

pub returns : goal.returns
returns c = together-sym
