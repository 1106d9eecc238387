use Rattle.std.proofs.Common.{◌∙◌}
use Rattle.nuc_measure.proofs.Marking.{held_by_none, held_by_one}
use Rattle.nuc_measure.proofs.mark.is_held.Goals as goal

pub returns-in-Some : goal.returns-in-Some
returns-in-Some g c =
    let m = g.T.TreeLike.nodes c.args.tree.now in
    c.ne.ensures ∙ held_by_one m c.args.id.0 c.in-Some.holder.0 c.args.place.now c.requires c.in-Some.ensures

pub returns-in-None : goal.returns-in-None
returns-in-None g c = held_by_none (g.T.TreeLike.nodes c.args.tree.now) c.args.id.0 c.args.place.now c.in-None.ensures
