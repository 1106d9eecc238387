use Rattle.std.proofs.Common.{sym, subst}
use Rattle.nuc_shelf.specs.Shelf.{ShelfState}
use Rattle.nuc_folder.specs.Removals.{ChildrenLater}
use Rattle.nuc_folder.proofs.Removing.{below_later}
use Rattle.nuc_folder.proofs.removal.remove.Goals as goal

pub cut_all-requires-clause-later : goal.cut_all-requires-clause-later
cut_all-requires-clause-later c =
    let s = c.args.shelf.now.now in
    let (x, n, items, finds, below, is) = c.in_ok-keys.ensures.ok in
    let later = subst (ChildrenLater s.tree) (sym is) (below_later s x items below) in
    subst (λ (u : ShelfState). ChildrenLater u.tree c.in_ok-keys.keys.items) (sym c.reserve-2.ensures.now) later
