use Rattle.nucleus_bench.specs.Chain.{IsChain}
use Rattle.nucleus_bench.proofs.journaling.push_all.Given as goal

abbrev pub invariant-loop : goal.invariant-loop
invariant-loop l = IsChain l.journal.now
