use Rattle.nuc_follow.proofs.Whole.{followed_cutting}
use Rattle.nuc_follow.proofs.laws.cutting_succeeds.Goals as goal

pub returns : goal.returns
returns c = followed_cutting
