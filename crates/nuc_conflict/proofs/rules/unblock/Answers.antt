use Rattle.nuc_conflict.proofs.Blockers.{some_astray}
use Rattle.nuc_conflict.proofs.rules.unblock.Goals as goal

pub unreachable-requires : goal.unreachable-requires
unreachable-requires g c =
    some_astray (g.T.TreeLike.nodes c.args.r.now) (g.T.TreeLike.nodes c.args.l.now) c.args.id.0 c.args.node.now c.requires.remote c.requires.local
    c.requires.there c.requires.below c.in_default.ensures
