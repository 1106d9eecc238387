use Rattle.nuc_journal.proofs.Journals.{rev_at}
use Rattle.nuc_journal.proofs.laws.revisions_count.Goals as goal

pub returns : goal.returns
returns c = rev_at
