use Rattle.nuc_converge.proofs.GivesSome.{each_plan_gives_some}
use Rattle.nuc_converge.proofs.laws.each_plan_gives_some.Goals as goal

pub returns : goal.returns
returns c = each_plan_gives_some
