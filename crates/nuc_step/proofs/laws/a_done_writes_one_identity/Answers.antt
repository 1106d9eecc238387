use Rattle.nuc_step.proofs.Written.{writes_once}
use Rattle.nuc_step.proofs.laws.a_done_writes_one_identity.Goals as goal

pub returns : goal.returns
returns c = writes_once
