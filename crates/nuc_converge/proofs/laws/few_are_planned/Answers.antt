use Rattle.nuc_converge.proofs.Rest.{few_are_planned}
use Rattle.nuc_converge.proofs.laws.few_are_planned.Goals as goal

pub returns : goal.returns
returns c = few_are_planned
