use Rattle.nuc_converge.proofs.Rest.{each_lowers_it}
use Rattle.nuc_converge.proofs.laws.each_operation_counts.Goals as goal

pub returns : goal.returns
returns c = each_lowers_it
