use Rattle.nuc_converge.proofs.Rest.{few_unless_collision}
use Rattle.nuc_converge.proofs.laws.few_unless_collision.Goals as goal

pub returns : goal.returns
returns c = few_unless_collision
