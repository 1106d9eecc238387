use Rattle.nuc_replica.proofs.Journaled.{none_have}
use Rattle.nuc_world.proofs.member.new_member.Goals as goal

pub of-remote-requires-clause-revisions : goal.of-remote-requires-clause-revisions
of-remote-requires-clause-revisions g c = none_have (g.T.TreeLike.nodes c.in_ok-empty.field-0) c.new.result.now c.in_ok-empty.ensures.empty c.new.ensures.now
