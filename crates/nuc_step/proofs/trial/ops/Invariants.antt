use Rattle.std.proofs.Common.{All}
use Rattle.nuc_step.specs.Sound.{MayFly}
use Rattle.nuc_step.proofs.trial.ops.Given as goal

abbrev pub invariant-loop-draft : goal.invariant-loop-draft
invariant-loop-draft g l = All MayFly l.ops.items
