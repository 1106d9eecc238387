use Rattle.nuc_base.proofs.Faulty.{no_fault}
use Rattle.nuc_observe.proofs.judge.valid_name.Goals as goal

pub returns-in-Err-2 : goal.returns-in-Err-2
returns-in-Err-2 c = λ name. no_fault _ name _ c.if-is_memory.ensures c.in-Err.ensures
