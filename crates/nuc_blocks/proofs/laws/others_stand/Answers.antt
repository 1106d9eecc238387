use Rattle.nuc_blocks.proofs.Lookups.{others_stand}
use Rattle.nuc_blocks.proofs.laws.others_stand.Goals as goal

pub returns : goal.returns
returns c = others_stand
