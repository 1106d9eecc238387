use Rattle.std.proofs.Common.{rules}
use Rattle.nuc_undo.proofs.Stocks.{none_fit}
use Rattle.nuc_undo.proofs.undo_tree.UndoTree.of.Goals as goal

pub invariant_of-result : goal.invariant_of-result
invariant_of-result g c = record {
  form = c.requires;
  undos = search rules;
  owed = search rules;
  room = search rules;
  away = search rules;
  fits = none_fit _ c.new-2.ensures;
}
