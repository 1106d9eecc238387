use Rattle.std.proofs.Common.{◌≡◌, ◌∙◌, Some, length, ap, sym, arith}
use Rattle.std.specs.Prelude.{slice_get}
use Rattle.nuc_base.proofs.Children.{child_there}
use Rattle.nuc_base.specs.Trees.{children}
use Rattle.nuc_replica.proofs.InPlace.{all_copied, one_more}
use Rattle.nuc_replica.proofs.renaming.moved_children.Goals as goal

pub moved_below-requires : goal.moved_below-requires
moved_below-requires g c =
    let there = child_there (g.T.TreeLike.nodes c.args.tree.now) c.args.from.0 c.len.result c.in-Some.id.0 (sym c.in-Some.ensures) in
    (there.0, there.1)

pub loop-id-smaller : goal.loop-id-smaller
loop-id-smaller g c =
    let m = g.T.TreeLike.nodes c.args.tree.now in
    let size : c.len.result ≡ length c.loop-id.moves.items = omega (arith, c.len.ensures, c.loop-id.moves.ok) in
    let at : slice_get (children m c.args.from.0) (length c.loop-id.moves.items) ≡ Some c.in-Some.id.0 =
    ap (slice_get (children m c.args.from.0)) (sym size) ∙ sym c.in-Some.ensures in
    let more = one_more m c.args.from.0 c.args.to.0 c.in-Some.id.0 c.loop-id.moves.items c.push.new.self.items c.in_ok-moved_below.field-0
    c.loop-id.invariant.0 at c.in_ok-moved_below.ensures c.in_ok-push.ensures.items in
    omega (arith, more.1, more.2)

pub loop-id-preserved : goal.loop-id-preserved
loop-id-preserved g c =
    let m = g.T.TreeLike.nodes c.args.tree.now in
    let size : c.len.result ≡ length c.loop-id.moves.items = omega (arith, c.len.ensures, c.loop-id.moves.ok) in
    let at : slice_get (children m c.args.from.0) (length c.loop-id.moves.items) ≡ Some c.in-Some.id.0 =
    ap (slice_get (children m c.args.from.0)) (sym size) ∙ sym c.in-Some.ensures in
    let more = one_more m c.args.from.0 c.args.to.0 c.in-Some.id.0 c.loop-id.moves.items c.push.new.self.items c.in_ok-moved_below.field-0
    c.loop-id.invariant.0 at c.in_ok-moved_below.ensures c.in_ok-push.ensures.items in
    (more.0, more.1)

pub returns : goal.returns
returns g c =
    let m = g.T.TreeLike.nodes c.args.tree.now in
    let size : c.len.result ≡ length c.loop-id.moves.items = omega (arith, c.len.ensures, c.loop-id.moves.ok) in
    all_copied m c.args.from.0 c.args.to.0 c.loop-id.moves.items c.loop-id.invariant.0 (c.in_default.ensures ∙ ap (slice_get (children m c.args.from.0)) size)
