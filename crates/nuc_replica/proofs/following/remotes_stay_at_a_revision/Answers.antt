use Rattle.nuc_replica.proofs.Journaled.{remotes_stay}
use Rattle.nuc_replica.proofs.following.remotes_stay_at_a_revision.Goals as goal

pub returns : goal.returns
returns c = remotes_stay
