use Rattle.std.proofs.Common.{false, drop}
use Rattle.nuc_sync.specs.Runs.{Runs}
use Rattle.nuc_sync.specs.Tasks.{next}
use Rattle.nuc_sync.proofs.planning.carry_out.Given as goal

abbrev pub invariant-loop-number : goal.invariant-loop-number
invariant-loop-number g l = Runs l.fn.world (next l.fn.client l.fn.backwards l.numbers false) l.world
    (next l.fn.client l.fn.backwards (drop l.number-index l.numbers) l.applied)
