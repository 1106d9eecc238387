use Rattle.nuc_conflict.proofs.InTheWay.{in_the_way_of}
use Rattle.nuc_conflict.proofs.rules.in_the_way.Goals as goal

pub returns : goal.returns
returns g c = in_the_way_of (g.T.TreeLike.nodes c.args.tree.now) c.args.id.0 c.args.place.now c.at.result c.another.result c.requires c.at.ensures c.another.ensures
