use Rattle.nuc_safety.proofs.Taking.{first_taken}
use Rattle.nuc_safety.proofs.laws.the_first_is_taken.Goals as goal

pub returns : goal.returns
returns c = first_taken
