use Rattle.std.proofs.Common.{[]}
use Rattle.nuc_safety.proofs.Taking.{one_batch}
use Rattle.nuc_safety.proofs.laws.one_first_fit.Goals as goal

pub returns : goal.returns
returns c = λ r l s due batch other first second. one_batch r l s [] due batch other first second
