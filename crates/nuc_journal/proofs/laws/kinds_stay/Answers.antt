use Rattle.nuc_journal.proofs.Histories.{one_kind}
use Rattle.nuc_journal.proofs.laws.kinds_stay.Goals as goal

pub returns : goal.returns
returns c = one_kind
