use Rattle.nuc_folder.proofs.ListedKeys.{listed_low}
use Rattle.nuc_folder.proofs.mem_calls.MemFolderFolder.list.Goals as goal

pub returns-clause-keys : goal.returns-clause-keys
returns-clause-keys c = listed_low _ _ c.self.invariant.0.below _ c.in-Ok.ensures
