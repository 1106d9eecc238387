use Rattle.std.proofs.Common.{◌≡◌, ◌≤◌, Some, length, sym, subst, arith}
use Rattle.std.specs.FinMap.{len}
use Rattle.std.specs.List.{slice_get}
use Rattle.nuc_base.specs.Trees.{children}
use Rattle.nuc_base.proofs.Children.{children_bound}
use Rattle.nuc_folder.proofs.Found.{Rows, all_found, child_is_there, one_more_found}
use Rattle.nuc_folder.proofs.listing.found.Goals as goal

pub item_at-requires : goal.item_at-requires
item_at-requires c = child_is_there _ _ c.args.key.0 c.loop-i.i _ c.tree-in-loop-i.ensures.nodes (sym c.in-Some.ensures)

pub loop-i-preserved : goal.loop-i-preserved
loop-i-preserved c =
    let rows = one_more_found c.args.shelf.now.now _ c.args.key.0 c.loop-i.i _ _ _ _ c.tree-in-loop-i.ensures.nodes (sym c.in-Some.ensures) c.in_ok-item_at.ensures c.in_ok-push.ensures.items c.loop-i.invariant.each c.loop-i.invariant.keys in
    record { each = rows.each; keys = rows.keys }

pub returns : goal.returns
returns c =
    let s = c.args.shelf.now.now in
    let bound = children_bound s.tree c.args.key.0 in
    let count = subst (λ m. c.len-i-end.result ≡ len m) c.tree.ensures.nodes c.len-i-end.ensures in
    let past = c.loop-i-test.false in
    all_found s c.args.key.0 c.loop-i.i _ c.loop-i.invariant.each c.loop-i.invariant.keys (omega (arith, bound, count, past))
