use Rattle.nuc_conflict.proofs.OneMend.{mend_or_none}
use Rattle.nuc_conflict.proofs.laws.no_mend_without_a_rule.Goals as goal

pub returns : goal.returns
returns c = mend_or_none
