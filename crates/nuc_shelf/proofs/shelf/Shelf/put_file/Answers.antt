use Rattle.std.proofs.Common.{Some, refl, ap, sym, subst, ◌∙◌}
use Rattle.nuc_base.specs.Legal.{LegalPut}
use Rattle.nuc_base.specs.Trees.{WellFormed}
use Rattle.nuc_shelf.specs.Files.{led}
use Rattle.nuc_shelf.specs.Shelf.{ShelfState, file_at}
use Rattle.nuc_shelf.proofs.Shelves.{put_file, shelf_at}
use Rattle.nuc_shelf.proofs.shelf.Shelf.put_file.Goals as goal

pub invariant_of-self-2 : goal.invariant_of-self-2
invariant_of-self-2 c =
    let s : ShelfState = record { tree = c.self.inside.tree.now; bytes = c.self.inside.files.now } in
    let n = file_at c.args.place c.args.bit in
    let legal = subst (λ m. LegalPut m c.args.key n) (sym (ap (λ s. s.now.tree) c.self.view_is)) c.requires.legal in
    let form = subst WellFormed c.in_ok-put.ensures.ok c.put.ensures.form in
    let is = put_file s c.args.key n c.self.invariant.0 form (λ e. refl) c.args.file refl legal.kind in
    let bytes = c.set.ensures.now ∙ ap (λ m. led m c.args.key (Some c.args.file)) c.in_ok-reserve.ensures.now in
    (shelf_at _ _ _ _ c.in_ok-put.ensures.ok bytes is, shelf_at _ _ _ _ c.put.ensures.settled (c.set.ensures.settled ∙ c.in_ok-reserve.ensures.settled) c.self.invariant.1)

pub returns-clause-shelf : goal.returns-clause-shelf
returns-clause-shelf c = (invariant_of-self-2 c).0
