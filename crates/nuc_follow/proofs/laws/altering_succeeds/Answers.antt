use Rattle.nuc_follow.proofs.Whole.{followed_altering}
use Rattle.nuc_follow.proofs.laws.altering_succeeds.Goals as goal

pub returns : goal.returns
returns c = followed_altering
