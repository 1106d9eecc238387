use Rattle.std.proofs.Common.{◌≡◌, ℕ, ◌≤◌, ◌++◌, List, length}
use Rattle.nuc_io.specs.Writing.{Added}
use Rattle.nuc_io.proofs.write.write_all.Given as goal

abbrev pub invariant-loop-rest : goal.invariant-loop-rest
invariant-loop-rest g l =
    ((done : List ℕ) × (done ++ l.rest ≡ l.fn.bytes) × Added (g.K.Sink.held l.fn.sink) done (g.K.Sink.held l.sink))
    × (g.K.Sink.faults l.fn.sink ≤ g.K.Sink.faults l.sink)

abbrev pub decreases-loop-rest : goal.decreases-loop-rest
decreases-loop-rest g l = length l.rest
