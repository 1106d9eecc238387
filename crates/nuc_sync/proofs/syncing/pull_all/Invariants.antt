use Rattle.std.proofs.Common.{◌-◌, [], ◌∷◌}
use Rattle.nuc_sync.specs.Runs.{Runs}
use Rattle.nuc_sync.specs.Tasks.{pulls}
use Rattle.nuc_sync.proofs.syncing.pull_all.Given as goal
use Rattle.nuc_world.specs.Units.{units_of}
use Rattle.nuc_world.specs.declared.stop.TheConstants.{MOST_UNITS}

abbrev pub invariant-pulls : goal.invariant-pulls
invariant-pulls g l = Runs l.fn.world (pulls l.fn.client ∷ []) l.world (pulls l.fn.client ∷ [])

abbrev pub decreases-pulls : goal.decreases-pulls
decreases-pulls g l = MOST_UNITS - units_of l.world.log
