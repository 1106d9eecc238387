use Rattle.std.proofs.Common.{◌≡◌, [], ap, reverse, subst, sym, ◌∙◌}
use Rattle.nuc_undo.specs.Laid.{AllFit}
use Rattle.nuc_undo.proofs.Stocks.{first_is, none_past, other_stock}
use Rattle.nuc_undo.proofs.undo_tree.UndoTree.swap_laid.Goals as goal

pub invariant_of-self : goal.invariant_of-self
invariant_of-self g c =
    let none = none_past _ _ (ap (λ s. s.past) c.self.view_is ∙ c.requires.settled) in
    other_stock _ _ _ _ _ c.swap.new.x c.self.invariant none (subst (λ s. AllFit s.laid) (sym c.swap.ensures.x_after) c.other.invariant.fits)

pub invariant_of-other : goal.invariant_of-other
invariant_of-other g c =
    let none = none_past _ _ (ap (λ s. s.past) c.other.view_is ∙ c.requires.other_settled) in
    other_stock _ _ _ _ _ c.swap.new.y c.other.invariant none (subst (λ s. AllFit s.laid) (sym c.swap.ensures.y_after) c.self.invariant.fits)

pub returns-clause-laid_then : goal.returns-clause-laid_then
returns-clause-laid_then g c =
    let none = none_past _ _ (ap (λ s. s.past) c.self.view_is ∙ c.requires.settled) in
    first_is _ _ c.swap.new.x.laid none ∙ ap (λ s. s.laid) c.swap.ensures.x_after ∙ ap (λ s. s.laid) c.other.view_is

pub returns-clause-other_laid_then : goal.returns-clause-other_laid_then
returns-clause-other_laid_then g c =
    let none = none_past _ _ (ap (λ s. s.past) c.other.view_is ∙ c.requires.other_settled) in
    first_is _ _ c.swap.new.y.laid none ∙ ap (λ s. s.laid) c.swap.ensures.y_after ∙ ap (λ s. s.laid) c.self.view_is
