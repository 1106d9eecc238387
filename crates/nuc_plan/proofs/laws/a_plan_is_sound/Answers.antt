use Rattle.nuc_plan.proofs.Planned.{plans_are_sound}
use Rattle.nuc_plan.proofs.laws.a_plan_is_sound.Goals as goal

pub returns : goal.returns
returns c = plans_are_sound
