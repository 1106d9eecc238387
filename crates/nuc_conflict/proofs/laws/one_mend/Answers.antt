use Rattle.nuc_conflict.proofs.OneMend.{one_mend}
use Rattle.nuc_conflict.proofs.laws.one_mend.Goals as goal

pub returns : goal.returns
returns c = one_mend
