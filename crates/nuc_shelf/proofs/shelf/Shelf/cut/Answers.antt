use Rattle.std.proofs.Common.{None, ap, ◌∙◌, subst}
use Rattle.nuc_base.specs.Trees.{WellFormed}
use Rattle.nuc_shelf.specs.Files.{led}
use Rattle.nuc_shelf.specs.Shelf.{ShelfState}
use Rattle.nuc_shelf.proofs.Shelves.{without_is, shelf_at}
use Rattle.nuc_shelf.proofs.shelf.Shelf.cut.Goals as goal

pub invariant_of-self-2 : goal.invariant_of-self-2
invariant_of-self-2 c =
    let s : ShelfState = record { tree = c.self.inside.tree.now; bytes = c.self.inside.files.now } in
    let is = without_is s c.args.key c.self.invariant.0 (subst WellFormed c.in_ok-cut.ensures.ok c.cut.ensures.form) in
    let bytes = c.set.ensures.now ∙ ap (λ m. led m c.args.key None) c.in_ok-reserve.ensures.now in
    (shelf_at _ _ _ _ c.in_ok-cut.ensures.ok bytes is, shelf_at _ _ _ _ c.cut.ensures.settled (c.set.ensures.settled ∙ c.in_ok-reserve.ensures.settled) c.self.invariant.1)

pub returns-clause-shelf : goal.returns-clause-shelf
returns-clause-shelf c = (invariant_of-self-2 c).0
