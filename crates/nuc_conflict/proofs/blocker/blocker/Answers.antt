use Rattle.std.proofs.Common.{◌≡◌, Some, None, arith, sym, subst}
use Rattle.std.specs.FinMap as map
use Rattle.nuc_base.specs.Trees.Under.{here, up}
use Rattle.nuc_base.proofs.Chains.{next_step, no_step, short_chain, under_trans}
use Rattle.nuc_base.proofs.Forms.{folder_rooted}
use Rattle.nuc_conflict.proofs.Blockers.{node_below_root, step_up, walk_ended}
use Rattle.nuc_conflict.proofs.blocker.blocker.Goals as goal

pub loop-init : goal.loop-init
loop-init g c = record {
  under = here;
  left = (let s = short_chain _ _ _ (folder_rooted _ c.args.from.0 c.requires.remote c.requires.folder) in (s.0, s.1, (let few = s.2 in omega (arith, few, c.len-end.ensures))));
  highest = λ alike. alike;
}

pub loop-preserved : goal.loop-preserved
loop-preserved g c =
    let r = g.T.TreeLike.nodes c.args.r.now in
    let l = g.T.TreeLike.nodes c.args.l.now in
    let n = c.in-Some.node.now in
    let stands : map.get r c.loop.at.0 ≡ Some n = sym c.in-Some.ensures in
    let left = c.loop.invariant.left in
    let rest = next_step r 0 c.loop.at.0 left.0 n left.1 (node_below_root r c.loop.at.0 n c.requires.remote stands) stands in
    record {
      under = under_trans r c.loop.at.0 c.args.from.0 n.place.parent.0 c.loop.invariant.under (up c.loop.at.0 n stands here);
      left = (rest.0, rest.1, (let one = rest.2 in let few = left.2 in omega (arith, one, few)));
      highest = step_up r l c.args.from.0 c.loop.at n _ c.loop.highest c.higher-highest.result stands c.loop.invariant.under c.get-in-loop.ensures
          c.higher-highest.ensures c.loop.invariant.highest;
    }

pub returns-in_default : goal.returns-in_default
returns-in_default g c = walk_ended _ _ c.args.from.0 c.loop.at.0 c.loop.highest (sym c.in_default.ensures) c.loop.invariant.highest

pub returns : goal.returns
returns g c =
    let r = g.T.TreeLike.nodes c.args.r.now in
    let left = c.loop.invariant.left in
    let root : c.loop.at.0 ≡ 0 = no_step r 0 c.loop.at.0 left.0 left.1 (let few = left.2 in omega (arith, few)) in
    walk_ended _ _ c.args.from.0 c.loop.at.0 c.loop.highest (subst (λ z. map.get r z ≡ None) (sym root) c.requires.remote.no_root) c.loop.invariant.highest
