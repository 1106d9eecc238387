use Rattle.nucleus_bench.specs.Service.{IsReady}
use Rattle.nucleus_bench.proofs.committing.Service.fill.Given as goal

abbrev pub invariant-loop-number : goal.invariant-loop-number
invariant-loop-number l = IsReady l.self
