use Rattle.nuc_step.proofs.Lasting.{scans_keep}
use Rattle.nuc_step.proofs.laws.a_scan_keeps_what_it_needs.Goals as goal

pub returns : goal.returns
returns c = scans_keep
