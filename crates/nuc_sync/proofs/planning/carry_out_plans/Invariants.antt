use Rattle.std.proofs.Common.{◌-◌, [], ◌∷◌}
use Rattle.nuc_sync.specs.Runs.{Runs}
use Rattle.nuc_sync.specs.Tasks.{plans}
use Rattle.nuc_sync.proofs.planning.carry_out_plans.Given as goal
use Rattle.nuc_world.specs.Units.{units_of}
use Rattle.nuc_world.specs.declared.stop.TheConstants.{MOST_UNITS}

abbrev pub invariant-plans : goal.invariant-plans
invariant-plans g l = Runs l.fn.world (plans l.fn.client l.fn.backwards ∷ []) l.world (plans l.fn.client l.fn.backwards ∷ [])

abbrev pub decreases-plans : goal.decreases-plans
decreases-plans g l = MOST_UNITS - units_of l.world.log
