use Rattle.nuc_base.proofs.Differ.{candidates_differ}
use Rattle.nuc_base.proofs.copy_name.candidates_differ.Goals as goal

pub returns : goal.returns
returns c = candidates_differ
