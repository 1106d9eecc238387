use Rattle.std.proofs.Common.{◌≡◌, ◌<◌, sym, arith}
use Rattle.std.specs.FinMap as map
use Rattle.nuc_base.proofs.Order.{nth_below}
use Rattle.nuc_plan.proofs.walk.behind.Goals as goal

pub returns-in_default : goal.returns-in_default
returns-in_default g c =
    let m = g.T.TreeLike.nodes c.args.tree.now in
    let below : c.args.at < map.len m = nth_below m c.args.at c.in-Some.found.0 (sym c.in-Some.ensures) in
    absurd (omega (arith, below, c.len.ensures, c.if-at-len.false))
