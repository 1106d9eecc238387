use Rattle.std.proofs.Common.{◌∷◌, None, reverse, arith}
use Rattle.std.proofs.lemmas.List.{length-reverse}
use Rattle.nuc_undo.proofs.Undoing.{few_owed}
use Rattle.nuc_undo.proofs.undo_tree.UndoTree.cut.Goals as goal

pub overflow_add-self : goal.overflow_add-self
overflow_add-self g c =
    let few = few_owed (record { undo = c.cut_undoable-undo.result; number = None } ∷ reverse c.self.inside.steps.items) in
    let size = length-reverse c.self.inside.steps.items in
    omega arith
