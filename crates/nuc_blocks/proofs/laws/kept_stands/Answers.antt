use Rattle.nuc_blocks.proofs.Lookups.{kept_stands}
use Rattle.nuc_blocks.proofs.laws.kept_stands.Goals as goal

pub returns : goal.returns
returns c = kept_stands
