use Rattle.nuc_follow.proofs.Whole.{followed_splitting}
use Rattle.nuc_follow.proofs.laws.splitting_succeeds.Goals as goal

pub returns : goal.returns
returns c = followed_splitting
