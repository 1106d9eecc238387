use Rattle.nuc_conflict.proofs.Cuts.{mend_or_equal}
use Rattle.nuc_conflict.proofs.laws.a_mend_or_equal_trees.Goals as goal

pub returns : goal.returns
returns c = mend_or_equal
