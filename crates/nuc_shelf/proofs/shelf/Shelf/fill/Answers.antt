use Rattle.std.proofs.Common.{Some, refl, ap, sym, subst, ◌∙◌}
use Rattle.nuc_shelf.specs.Files.{led}
use Rattle.nuc_shelf.specs.Shelf.{IsFile, ShelfState}
use Rattle.nuc_shelf.proofs.Shelves.{refilled_is, shelf_at}
use Rattle.nuc_shelf.proofs.shelf.Shelf.fill.Goals as goal

pub invariant_of-self-2 : goal.invariant_of-self-2
invariant_of-self-2 c =
    let s : ShelfState = record { tree = c.self.inside.tree.now; bytes = c.self.inside.files.now } in
    let file = subst (λ m. IsFile m c.args.key) (sym (ap (λ s. s.now.tree) c.self.view_is)) c.requires in
    let is = refilled_is s c.args.key c.args.file c.self.invariant.0 file in
    let bytes = c.set.ensures.now ∙ ap (λ m. led m c.args.key (Some c.args.file)) c.in_ok-reserve.ensures.now in
    (shelf_at _ _ _ _ refl bytes is, shelf_at _ _ _ _ refl (c.set.ensures.settled ∙ c.in_ok-reserve.ensures.settled) c.self.invariant.1)

pub returns-clause-shelf : goal.returns-clause-shelf
returns-clause-shelf c = (invariant_of-self-2 c).0
