use Rattle.nuc_journal.proofs.Histories.{current_gave}
use Rattle.nuc_journal.proofs.laws.current_revisions_gave.Goals as goal

pub returns : goal.returns
returns c = current_gave
