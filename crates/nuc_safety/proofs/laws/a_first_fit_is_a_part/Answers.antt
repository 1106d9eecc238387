use Rattle.nuc_safety.proofs.Taking.{is_few, is_part}
use Rattle.nuc_safety.proofs.laws.a_first_fit_is_a_part.Goals as goal

pub returns : goal.returns
returns c = λ r l s due batch fit. (is_part r l s due batch fit, is_few r l s due batch fit)
