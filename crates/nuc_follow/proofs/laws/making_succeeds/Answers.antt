use Rattle.nuc_follow.proofs.Whole.{followed_making}
use Rattle.nuc_follow.proofs.laws.making_succeeds.Goals as goal

pub returns : goal.returns
returns c = followed_making
