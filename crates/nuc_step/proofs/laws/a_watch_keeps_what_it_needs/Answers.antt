use Rattle.nuc_step.proofs.Lasting.{watches_keep}
use Rattle.nuc_step.proofs.laws.a_watch_keeps_what_it_needs.Goals as goal

pub returns : goal.returns
returns c = watches_keep
