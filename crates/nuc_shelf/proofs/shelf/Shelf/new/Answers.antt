use Rattle.std.proofs.Common.{◌∙◌, ap, sym}
use Rattle.nuc_undo.specs.State.{earliest}
use Rattle.nuc_shelf.proofs.Shelves.{empty_is, shelf_at}
use Rattle.nuc_shelf.proofs.shelf.Shelf.new.Goals as goal

pub invariant_of-result : goal.invariant_of-result
invariant_of-result c =
    let tree = c.of.ensures.now ∙ c.new.ensures.empty in
    let settled = ap (earliest c.of.result.now) c.of.ensures.past ∙ tree in
    (shelf_at _ _ _ _ tree c.new-2.ensures.now empty_is, shelf_at _ _ _ _ settled c.new-2.ensures.settled empty_is)
