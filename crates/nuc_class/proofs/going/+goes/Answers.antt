use Rattle.std.proofs.Common.{sym, arith, rules}
use Rattle.std.specs.FinMap as map
use Rattle.nuc_base.proofs.Children.{child_there, children_bound}
use Rattle.nuc_class.specs.Going.{IsKept}
use Rattle.nuc_class.proofs.Walk.{at_end, kept_parts, going-child, going_of_children, go_more, some_left, room_below}
use Rattle.nuc_class.proofs.going.+goes.Goals as goal
use Rattle.nuc_class.proofs.going.+goes.Goals.{else-not-is_spared-via-then-not-is_spared+else-not-goes, else-not-is_spared-via-else-not-is_spared}

pub returns-in_default : goal.returns-in_default
returns-in_default g t c =
    going_of_children _ _ _ _ c.args.id.0 c.loop-i.i (search rules) c.loop-i.invariant (at_end _ c.loop-i.i (sym c.in_default.ensures))

pub overflow_sub-left : goal.overflow_sub-left
overflow_sub-left g t c =
    let id = c.args.id.0 in
    let kept : IsKept (map.get (g.T.TreeLike.nodes c.args.other.now) id) (map.get (g.T.TreeLike.nodes c.args.own.now) id) (map.get (g.T.TreeLike.nodes c.args.s.now) id) = search rules in
    let node = kept_parts _ _ _ kept in
    some_left _ id c.args.left node.1 c.requires.form node.2 c.requires.room

pub goes-requires : goal.goes-requires
goes-requires g t c κs out =
    let id = c.args.id.0 in
    let kept : IsKept (map.get (g.T.TreeLike.nodes c.args.other.now) id) (map.get (g.T.TreeLike.nodes c.args.own.now) id) (map.get (g.T.TreeLike.nodes c.args.s.now) id) = search rules in
    let node = kept_parts _ _ _ kept in
    let child = child_there (g.T.TreeLike.nodes c.args.own.now) id c.loop-i.i c.in-Some.child.0 (sym c.in-Some.ensures) in
    let some = some_left _ id c.args.left node.1 c.requires.form node.2 c.requires.room in
    let room = room_below _ id c.args.left node.1 c.requires.form node.2 c.requires.room c.in-Some.child.0 child.0 child.1 child.2 in
    (omega (arith, some), (out, (c.requires.form, room)))

pub returns-then-not-goes : goal.returns-then-not-goes
returns-then-not-goes g t c whole =
    let child = child_there (g.T.TreeLike.nodes c.args.own.now) c.args.id.0 c.loop-i.i c.in-Some.child.0 (sym c.in-Some.ensures) in
    c.if-not-goes.ensures (going-child _ _ _ _ c.args.id.0 c.in-Some.child.0 child.0 whole child.1 child.2 c.if-not-is_spared.ensures)

pub loop-i-preserved : goal.loop-i-preserved
loop-i-preserved g t c =
    go_more _ _ _ _ c.args.id.0 c.loop-i.i c.in-Some.child.0 (sym c.in-Some.ensures)
    (λ not_spared. elim c.else-not-is_spared.branch [
      | else-not-is_spared-via-then-not-is_spared+else-not-goes w ↦ w.if-not-goes.ensures
      | else-not-is_spared-via-else-not-is_spared w ↦ absurd (not_spared w.if-not-is_spared.ensures)
    ]) c.loop-i.invariant

pub returns : goal.returns
returns g t c =
    let bound = children_bound (g.T.TreeLike.nodes c.args.own.now) c.args.id.0 in
    going_of_children _ _ _ _ c.args.id.0 c.loop-i.i (search rules) c.loop-i.invariant (omega (arith, bound))
