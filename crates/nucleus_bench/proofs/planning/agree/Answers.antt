use Rattle.std.proofs.Common.{rules, ◌≡◌, ◌<◌, Some, sym, ap, subst, arith}
use Rattle.std.specs.FinMap.{len}
use Rattle.nuc_base.proofs.Order.{nth_of}
use Rattle.nucleus_bench.proofs.planning.agree.Goals as goal

pub returns : goal.returns
returns g c holds x n k in_a in_b =
    let all : c.loop-i.i ≡ len (g.T.TreeLike.nodes c.args.a.now) = search rules in
    let place = nth_of (g.T.TreeLike.nodes c.args.a.now) x (n, in_a) in
    let before : place.0 < c.loop-i.i = let within = place.1 in omega (arith, within, all) in
    c.loop-i.invariant place.0 x n k before place.2 in_a in_b
