-- The sync of a client, put together from its parts.
use Rattle.nuc_quiet.specs.Laws.{SyncsEndQuiet}
use Rattle.nuc_quiet.proofs.Ending.{dones_go_well}
use Rattle.nuc_quiet.proofs.Planning.{plans_go_well}
use Rattle.nuc_quiet.proofs.Scanning.{scans_match}
use Rattle.nuc_quiet.proofs.Starting.{starts_go_well}
use Rattle.nuc_quiet.proofs.Syncing as sync
use Rattle.nuc_quiet.proofs.Taking.{takes_go_well}

pub syncs_end_quiet : SyncsEndQuiet
syncs_end_quiet = sync.syncs_end_quiet scans_match plans_go_well starts_go_well takes_go_well dones_go_well
