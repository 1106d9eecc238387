use Rattle.nuc_quiet.proofs.Whole.{syncs_end_quiet}
use Rattle.nuc_quiet.proofs.laws.a_sync_ends_quiet.Goals as goal

pub returns : goal.returns
returns c = syncs_end_quiet
