use Rattle.nuc_blocks.proofs.Lookups.{stored_stands}
use Rattle.nuc_blocks.proofs.laws.stored_stands.Goals as goal

pub returns : goal.returns
returns c = stored_stands
