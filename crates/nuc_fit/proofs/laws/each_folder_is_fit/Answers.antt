use Rattle.nuc_fit.proofs.Whole.{folders_are_fit}
use Rattle.nuc_fit.proofs.laws.each_folder_is_fit.Goals as goal

pub returns : goal.returns
returns c = folders_are_fit
