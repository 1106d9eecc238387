use Rattle.nuc_class.proofs.Rows.{down_keeps_edits}
use Rattle.nuc_class.proofs.laws.a_down_keeps_edits.Goals as goal

pub returns : goal.returns
returns c = down_keeps_edits
