use Rattle.nuc_replica.proofs.Trials.{none_have_keys}
use Rattle.nuc_replica.proofs.local_tests.fresh.Goals as goal

pub of-requires-clause-keys : goal.of-requires-clause-keys
of-requires-clause-keys c = none_have_keys c.new.result.nodes c.new-2.result.now c.new.ensures.empty c.new-2.ensures.now
