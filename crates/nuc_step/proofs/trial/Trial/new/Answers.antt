use Rattle.std.proofs.Common.{◌∙◌, ap}
use Rattle.nuc_replica.proofs.Journaled.{none_have}
use Rattle.nuc_step.specs.Client.{ClientState}
use Rattle.nuc_step.proofs.Trials.{at_first}
use Rattle.nuc_step.proofs.trial.Trial.new.Goals as goal

pub of-remote-requires-clause-revisions : goal.of-remote-requires-clause-revisions
of-remote-requires-clause-revisions c = none_have c.new.result.nodes c.new-2.result.now c.new.ensures.empty c.new-2.ensures.now

pub invariant_of-result : goal.invariant_of-result
invariant_of-result c =
    at_first c.new-5.result.now c.new.result.nodes c.new-2.result.now c.of.result c.new.ensures.empty c.new-2.ensures.now
    (ap (λ (x : ClientState). x.remote) c.of.ensures.now ∙ c.of-remote.ensures.now) c.of.ensures.settled
