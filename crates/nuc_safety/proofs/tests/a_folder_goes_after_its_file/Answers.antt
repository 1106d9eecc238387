use Rattle.nuc_safety.proofs.TestKinds.{kinds_of_empty}
use Rattle.nuc_safety.proofs.tests.a_folder_goes_after_its_file.Goals as goal

pub takes-requires-clause-kinds : goal.takes-requires-clause-kinds
takes-requires-clause-kinds g c = kinds_of_empty _ _ c.new-remote.ensures.empty

pub takes-requires-2-clause-kinds : goal.takes-requires-2-clause-kinds
takes-requires-2-clause-kinds g c = kinds_of_empty _ _ c.new-remote.ensures.empty
