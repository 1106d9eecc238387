use Rattle.nuc_journal.proofs.Ends.{last_stands}
use Rattle.nuc_journal.proofs.laws.last_entry_stands.Goals as goal

pub returns : goal.returns
returns c = last_stands
