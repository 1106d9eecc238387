use Rattle.std.proofs.Common.{sym, subst}
use Rattle.nucleus_bench.specs.Chain.{IsChain}
use Rattle.nucleus_bench.proofs.ChainLemmas.{chain_none}
use Rattle.nucleus_bench.proofs.journaling.journal.Goals as goal

pub push_all-requires : goal.push_all-requires
push_all-requires c = subst IsChain (sym c.new-journal.ensures.now) chain_none
