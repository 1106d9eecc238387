use Rattle.nuc_step.proofs.Keyed.{move_keeps}
use Rattle.nuc_step.proofs.laws.a_move_keeps_its_identity.Goals as goal

pub returns : goal.returns
returns c = move_keeps
