use Rattle.nuc_converge.proofs.Rest.{none_is_refused}
use Rattle.nuc_converge.proofs.laws.none_is_refused.Goals as goal

pub returns : goal.returns
returns c = none_is_refused
