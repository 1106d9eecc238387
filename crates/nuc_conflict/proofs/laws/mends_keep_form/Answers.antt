use Rattle.nuc_conflict.proofs.After.{mends_keep_form}
use Rattle.nuc_conflict.proofs.laws.mends_keep_form.Goals as goal

pub returns : goal.returns
returns c = mends_keep_form
