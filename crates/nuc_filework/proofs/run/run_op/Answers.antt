use Rattle.nuc_filework.proofs.Lacking.{lacks_memory}
use Rattle.nuc_filework.proofs.run.run_op.Goals as goal

pub returns-in-Err-Memory : goal.returns-in-Err-Memory
returns-in-Err-Memory g c = lacks_memory _ _ _ _ (rw (c.is_some.ensures, c.in-Err-Memory.field-0-is) at c.in-Err-Memory.ensures.err)
