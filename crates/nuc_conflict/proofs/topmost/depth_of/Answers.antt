use Rattle.std.proofs.Common.{◌≡◌, Some, arith, sym, subst, rules}
use Rattle.std.specs.FinMap as map
use Rattle.nuc_base.specs.Trees.{Steps}
use Rattle.nuc_base.proofs.Chains.{next_step}
use Rattle.nuc_base.proofs.Depths.{depth_of}
use Rattle.nuc_conflict.proofs.Blockers.{ended, node_below_root}
use Rattle.nuc_conflict.proofs.topmost.depth_of.Goals as goal

pub loop-depth-init : goal.loop-depth-init
loop-depth-init g c =
    let m = g.T.TreeLike.nodes c.args.tree.now in
    let deep = depth_of m c.args.id.0 c.requires.there.0 c.requires.tree c.requires.there.1 in
    (deep.0, deep.1, subst (λ k. Steps m 0 c.args.id.0 k) (omega arith) deep.1, (let short = deep.2 in omega (arith, short)))

pub loop-depth-preserved : goal.loop-depth-preserved
loop-depth-preserved g c =
    let m = g.T.TreeLike.nodes c.args.tree.now in
    let (k, left, whole, short) = c.loop-depth.invariant in
    let stands : map.get m c.loop-depth.at.0 ≡ Some c.in-Some.node.now = sym c.in-Some.ensures in
    let rest = next_step m 0 c.loop-depth.at.0 k c.in-Some.node.now left (node_below_root m c.loop-depth.at.0 c.in-Some.node.now c.requires.tree stands) stands in (
      rest.0,
      rest.1,
      subst (λ d. Steps m 0 c.args.id.0 d) (let one = rest.2 in omega (arith, one)) whole,
      (let one = rest.2 in omega (arith, one, short)),
    )

pub returns-in-None : goal.returns-in-None
returns-in-None g c =
    let m = g.T.TreeLike.nodes c.args.tree.now in
    let (k, left, whole, short) = c.loop-depth.invariant in
    let none : k ≡ 0 = ended m 0 c.loop-depth.at.0 k (sym c.in-None.ensures) left in
    subst (λ d. Steps m 0 c.args.id.0 d) (omega (arith, none)) whole

pub returns : goal.returns
returns g c =
    let m = g.T.TreeLike.nodes c.args.tree.now in
    let (k, left, whole, short) = c.loop-depth.invariant in
    let all : c.loop-depth.depth ≡ map.len m = search rules in
    let is : c.len.result ≡ map.len m = search rules in
    subst (λ d. Steps m 0 c.args.id.0 d) (omega (arith, short, all, is)) whole
