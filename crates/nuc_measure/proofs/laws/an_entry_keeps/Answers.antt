use Rattle.nuc_measure.proofs.Ending.{entries_keep}
use Rattle.nuc_measure.proofs.laws.an_entry_keeps.Goals as goal

pub returns : goal.returns
returns c = entries_keep
