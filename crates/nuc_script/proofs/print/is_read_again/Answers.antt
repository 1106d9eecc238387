use Rattle.nuc_script.proofs.ScriptBack.{printed_again}
use Rattle.nuc_script.proofs.print.is_read_again.Goals as goal

pub returns : goal.returns
returns c = printed_again
