use Rattle.std.proofs.Common.{sym}
use Rattle.nuc_tiered.proofs.Cells.{cell_is}
use Rattle.nuc_tiered.proofs.rings.cell_of.Goals as goal

pub returns-clause-value : goal.returns-clause-value
returns-clause-value c = sym (cell_is _ _)
