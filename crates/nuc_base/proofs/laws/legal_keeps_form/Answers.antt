use Rattle.nuc_base.proofs.Changed.{tree_after}
use Rattle.nuc_base.proofs.laws.legal_keeps_form.Goals as goal

pub returns : goal.returns
returns c = tree_after
