use Rattle.std.proofs.Common.{refl, ap, sym, subst, ◌∙◌}
use Rattle.nuc_base.specs.Legal.{LegalPut}
use Rattle.nuc_base.specs.Trees.{WellFormed}
use Rattle.nuc_shelf.specs.Shelf.{ShelfState, folder_at}
use Rattle.nuc_shelf.proofs.Shelves.{put_node, shelf_at}
use Rattle.nuc_shelf.proofs.shelf.Shelf.add_folder.Goals as goal

pub invariant_of-self-2 : goal.invariant_of-self-2
invariant_of-self-2 c =
    let s : ShelfState = record { tree = c.self.inside.tree.now; bytes = c.self.inside.files.now } in
    let n = folder_at c.args.place in
    let legal = subst (λ m. LegalPut m c.args.key n) (sym (ap (λ s. s.now.tree) c.self.view_is)) c.requires.legal in
    let form = subst WellFormed c.in_ok-put.ensures.ok c.put.ensures.form in
    let is = put_node s c.args.key n c.self.invariant.0 form (λ e. cc) legal.kind (λ e. cc) in
    (shelf_at _ _ _ _ c.in_ok-put.ensures.ok refl is, shelf_at _ _ _ _ c.put.ensures.settled refl c.self.invariant.1)

pub returns-clause-shelf : goal.returns-clause-shelf
returns-clause-shelf c = (invariant_of-self-2 c).0
