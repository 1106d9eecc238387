use Rattle.nuc_replica.proofs.Journaled.{next_entries_follow}
use Rattle.nuc_replica.proofs.following.next_entries_follow.Goals as goal

pub returns : goal.returns
returns c = next_entries_follow
