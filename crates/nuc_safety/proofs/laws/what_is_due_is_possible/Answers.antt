use Rattle.nuc_safety.proofs.Pairs.{due_possible}
use Rattle.nuc_safety.proofs.laws.what_is_due_is_possible.Goals as goal

pub returns : goal.returns
returns c = due_possible
