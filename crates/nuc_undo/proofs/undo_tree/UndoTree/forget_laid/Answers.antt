use Rattle.std.proofs.Common.{ap, ◌∙◌}
use Rattle.nuc_undo.proofs.Stocks.{first_is, none_fit, none_past, other_stock}
use Rattle.nuc_undo.proofs.undo_tree.UndoTree.forget_laid.Goals as goal

pub invariant_of-self : goal.invariant_of-self
invariant_of-self g c = other_stock _ _ _ _ _ c.clear.new.self c.self.invariant (none_past _ _ (ap (λ s. s.past) c.self.view_is ∙ c.requires)) (none_fit _ c.clear.ensures)

pub returns-clause-laid_then : goal.returns-clause-laid_then
returns-clause-laid_then g c = first_is _ _ c.clear.new.self.laid (none_past _ _ (ap (λ s. s.past) c.self.view_is ∙ c.requires)) ∙ c.clear.ensures
