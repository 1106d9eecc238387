use Rattle.nuc_run.proofs.OneOutcome.{one_number, one_outcome}
use Rattle.nuc_run.proofs.laws.a_script_has_one_outcome.Goals as goal

pub returns : goal.returns
returns c = record { outcome = one_outcome; number = one_number }
