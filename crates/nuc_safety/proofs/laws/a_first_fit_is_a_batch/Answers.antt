use Rattle.nuc_safety.proofs.Batches.{first_fit_batch}
use Rattle.nuc_safety.proofs.laws.a_first_fit_is_a_batch.Goals as goal

pub returns : goal.returns
returns c = first_fit_batch
