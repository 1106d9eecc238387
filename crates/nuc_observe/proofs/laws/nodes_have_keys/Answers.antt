use Rattle.nuc_observe.proofs.Aligned.{nodes_aligned}
use Rattle.nuc_observe.proofs.laws.nodes_have_keys.Goals as goal

pub returns : goal.returns
returns c = nodes_aligned
