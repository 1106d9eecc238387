use Rattle.nuc_run.proofs.QuietRuns.{scripts_end_quiet}
use Rattle.nuc_run.proofs.laws.a_script_ends_quiet.Goals as goal

pub returns : goal.returns
returns c = scripts_end_quiet
