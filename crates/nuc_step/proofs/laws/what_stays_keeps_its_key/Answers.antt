use Rattle.nuc_step.proofs.Keyed.{staying_keeps}
use Rattle.nuc_step.proofs.laws.what_stays_keeps_its_key.Goals as goal

pub returns : goal.returns
returns c = staying_keeps
