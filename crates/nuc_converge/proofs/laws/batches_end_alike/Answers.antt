use Rattle.nuc_converge.proofs.Rest.{batches_end_alike}
use Rattle.nuc_converge.proofs.laws.batches_end_alike.Goals as goal

pub returns : goal.returns
returns c = batches_end_alike
