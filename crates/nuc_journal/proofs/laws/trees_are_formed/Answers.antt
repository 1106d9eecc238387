use Rattle.nuc_journal.proofs.Journals.{form_at}
use Rattle.nuc_journal.proofs.laws.trees_are_formed.Goals as goal

pub returns : goal.returns
returns c = form_at
