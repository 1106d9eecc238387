use Rattle.nuc_class.proofs.Fits.{operations_fit}
use Rattle.nuc_class.proofs.laws.operations_fit.Goals as goal

pub returns : goal.returns
returns c = operations_fit
