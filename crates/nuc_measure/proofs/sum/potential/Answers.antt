use Rattle.std.proofs.Common.{refl, ◌≡◌, ◌+◌, ◌-◌, ◌^◌, suc, min, ap, ◌∙◌}
use Rattle.nuc_plan.proofs.Walking.{fewer_left}
use Rattle.nuc_measure.specs.Potential.{no_flight, points}
use Rattle.nuc_measure.proofs.Adding.{add_one, all_added}
use Rattle.nuc_measure.proofs.sum.potential.Goals as goal

pub loop-id-init : goal.loop-id-init
loop-id-init g c =
    let r = g.T.TreeLike.nodes c.args.remote.now in
    let l = g.T.TreeLike.nodes c.args.local.now in
    let s = g.T.TreeLike.nodes c.args.synced.now in
    (0, c.new-walk.ensures r l s, refl)

pub loop-id-smaller : goal.loop-id-smaller
loop-id-smaller g c =
    let (below, passed, added) = c.loop-id.invariant in
    fewer_left _ _ _ below c.in-Some.id.0 _ _ (c.in-Some.ensures below passed)

pub loop-id-preserved : goal.loop-id-preserved
loop-id-preserved g c =
    let r = g.T.TreeLike.nodes c.args.remote.now in
    let l = g.T.TreeLike.nodes c.args.local.now in
    let s = g.T.TreeLike.nodes c.args.synced.now in
    let same = g.H.Hashes.same c.args.h.now in
    let (below, passed, added) = c.loop-id.invariant in
    let id = c.in-Some.id.0 in
    let goes = c.in-Some.ensures below passed in
    let sum : c.saturating_add-sum.result ≡ min (c.loop-id.sum + points same no_flight r l s id) (2 ^ 64 - 1) =
    c.saturating_add-sum.ensures ∙ ap (λ k. min (c.loop-id.sum + k) (2 ^ 64 - 1)) c.points_of.ensures in
    (suc id, goes.passed, add_one same r l s below id c.loop-id.sum c.saturating_add-sum.result goes.next added sum)

pub returns : goal.returns
returns g c k is =
    let r = g.T.TreeLike.nodes c.args.remote.now in
    let l = g.T.TreeLike.nodes c.args.local.now in
    let s = g.T.TreeLike.nodes c.args.synced.now in
    let same = g.H.Hashes.same c.args.h.now in
    let (below, passed, added) = c.loop-id.invariant in
    all_added same r l s below c.loop-id.sum k (c.in_default.ensures below passed) added is
