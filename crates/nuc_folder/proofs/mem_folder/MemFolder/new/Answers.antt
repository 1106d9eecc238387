use Rattle.nuc_folder.proofs.Keyed.{empty_at}
use Rattle.nuc_folder.proofs.mem_folder.MemFolder.new.Goals as goal

pub invariant_of-result : goal.invariant_of-result
invariant_of-result c = (empty_at _ _ c.new.ensures.now, empty_at _ _ c.new.ensures.settled)
