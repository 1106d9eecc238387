use Rattle.std.proofs.Common.{◌≡◌, ◌<◌, ◌+◌, ℕ, suc, true, false, refl, sym, ◌∙◌, arith}
use Rattle.std.specs.FinMap.{get}
use Rattle.nuc_plan.proofs.DueFacts.{above_root}
use Rattle.nuc_plan.proofs.Walking.{fewer_left}
use Rattle.nuc_measure.specs.Differing.{differs}
use Rattle.nuc_measure.proofs.Counting.{all_counted, count_has_room, one_more}
use Rattle.nuc_measure.proofs.count.differing.Goals as goal

pub loop-id-init : goal.loop-id-init
loop-id-init g c =
    let r = g.T.TreeLike.nodes c.args.remote.now in
    let l = g.T.TreeLike.nodes c.args.local.now in
    let s = g.T.TreeLike.nodes c.args.synced.now in
    (0, c.new-walk.ensures r l s, refl)

pub overflow_add-count : goal.overflow_add-count
overflow_add-count g c =
    let r = g.T.TreeLike.nodes c.args.remote.now in
    let l = g.T.TreeLike.nodes c.args.local.now in
    let s = g.T.TreeLike.nodes c.args.synced.now in
    let (below, passed, counted) = c.loop-id.invariant in
    let id = c.in-Some.id.0 in
    let next = (c.in-Some.ensures below passed).next in
    let root : 0 < id = above_root (λ a b. false) r l s id c.requires.remote c.requires.local c.requires.synced next.anywhere in
    let room : c.loop-id.count < id =
    count_has_room r l s below id c.loop-id.count c.requires.remote c.requires.local c.requires.synced next root counted in
    omega (arith, room)

pub loop-id-smaller-then-differs : goal.loop-id-smaller-then-differs
loop-id-smaller-then-differs g c =
    let (below, passed, counted) = c.loop-id.invariant in
    fewer_left _ _ _ below c.in-Some.id.0 _ _ (c.in-Some.ensures below passed)

pub loop-id-preserved-then-differs : goal.loop-id-preserved-then-differs
loop-id-preserved-then-differs g c =
    let r = g.T.TreeLike.nodes c.args.remote.now in
    let l = g.T.TreeLike.nodes c.args.local.now in
    let s = g.T.TreeLike.nodes c.args.synced.now in
    let (below, passed, counted) = c.loop-id.invariant in
    let id = c.in-Some.id.0 in
    let goes = c.in-Some.ensures below passed in
    let told : true ≡ differs (get r id) (get l id) (get s id) = sym c.if-differs.true ∙ c.differs.ensures in
    (suc id, goes.passed, one_more r l s below id c.loop-id.count true goes.next told counted)

pub loop-id-smaller : goal.loop-id-smaller
loop-id-smaller g c =
    let (below, passed, counted) = c.loop-id.invariant in
    fewer_left _ _ _ below c.in-Some.id.0 _ _ (c.in-Some.ensures below passed)

pub loop-id-preserved : goal.loop-id-preserved
loop-id-preserved g c =
    let r = g.T.TreeLike.nodes c.args.remote.now in
    let l = g.T.TreeLike.nodes c.args.local.now in
    let s = g.T.TreeLike.nodes c.args.synced.now in
    let (below, passed, counted) = c.loop-id.invariant in
    let id = c.in-Some.id.0 in
    let goes = c.in-Some.ensures below passed in
    let told : false ≡ differs (get r id) (get l id) (get s id) = sym c.if-differs.false ∙ c.differs.ensures in
    (suc id, goes.passed, plus_none _ ∙ one_more r l s below id c.loop-id.count false goes.next told counted)
  where
    plus_none : (n : ℕ) → n ≡ n + 0
    plus_none n = omega arith

pub returns : goal.returns
returns g c =
    let r = g.T.TreeLike.nodes c.args.remote.now in
    let l = g.T.TreeLike.nodes c.args.local.now in
    let s = g.T.TreeLike.nodes c.args.synced.now in
    let (below, passed, counted) = c.loop-id.invariant in
    all_counted r l s below c.loop-id.count (c.in_default.ensures below passed) counted
