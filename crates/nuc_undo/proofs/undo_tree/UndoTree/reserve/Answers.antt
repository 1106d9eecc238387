use Rattle.std.proofs.Common.{reverse, arith}
use Rattle.std.proofs.lemmas.List.{length-reverse}
use Rattle.nuc_undo.proofs.Undoing.{few_owed}
use Rattle.nuc_undo.proofs.undo_tree.UndoTree.reserve.Goals as goal

pub returns-in_err-room-clause-memory : goal.returns-in_err-room-clause-memory
returns-in_err-room-clause-memory g c =
    let few = few_owed (reverse c.self.inside.steps.items) in
    let size = length-reverse c.self.inside.steps.items in
    grind arith
