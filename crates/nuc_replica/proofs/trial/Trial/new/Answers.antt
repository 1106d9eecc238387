use Rattle.nuc_replica.proofs.Journaled.{none_have}
use Rattle.nuc_replica.proofs.Paged.{at_first}
use Rattle.nuc_replica.proofs.trial.Trial.new.Goals as goal

pub of-requires-clause-revisions : goal.of-requires-clause-revisions
of-requires-clause-revisions c = none_have c.new-2.result.nodes c.new-3.result.now c.new-2.ensures.empty c.new-3.ensures.now

pub invariant_of-result : goal.invariant_of-result
invariant_of-result c =
    at_first c.new.result.now c.new-2.result.nodes c.new-3.result.now c.of.result c.new-2.ensures.empty c.new-3.ensures.now c.of.ensures.now c.of.ensures.settled
