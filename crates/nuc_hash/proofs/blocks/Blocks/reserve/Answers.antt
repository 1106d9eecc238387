use Rattle.std.proofs.Common.{arith}
use Rattle.nuc_hash.proofs.blocks.Blocks.reserve.Goals as goal

pub returns-clause-ok : goal.returns-clause-ok
returns-clause-ok c = grind (arith, c.reserve.ensures.ok, c.requires)
