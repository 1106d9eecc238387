use Rattle.nuc_replica.proofs.Journaled.{at_more}
use Rattle.nuc_replica.proofs.following.more_entries_keep_remotes.Goals as goal

pub returns : goal.returns
returns c = at_more
