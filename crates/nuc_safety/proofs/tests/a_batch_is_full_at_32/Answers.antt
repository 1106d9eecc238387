use Rattle.nuc_safety.proofs.TestKinds.{kinds_of_empty}
use Rattle.nuc_safety.proofs.tests.a_batch_is_full_at_32.Goals as goal

pub all_due-requires-clause-kinds : goal.all_due-requires-clause-kinds
all_due-requires-clause-kinds g c = kinds_of_empty _ _ c.new-empty.ensures.empty
