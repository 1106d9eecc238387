use Rattle.nuc_plan.proofs.Planned.{record_steps_stay_here}
use Rattle.nuc_plan.proofs.laws.a_record_step_keeps_remote.Goals as goal

pub returns : goal.returns
returns c = record_steps_stay_here
