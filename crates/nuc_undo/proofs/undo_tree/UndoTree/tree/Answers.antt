use Rattle.std.proofs.Common.{reverse, subst, ap, sym, ◌∙◌}
use Rattle.nuc_base.specs.Trees.{WellFormed}
use Rattle.nuc_undo.specs.State.{UndoState, settled_of}
use Rattle.nuc_undo.specs.Laid.{StillLaid}
use Rattle.nuc_undo.proofs.Stocks.{first_is, none_past, stays}
use Rattle.nuc_undo.proofs.Undoing.{settled_form}
use Rattle.nuc_undo.proofs.undo_tree.UndoTree.tree.Goals as goal

pub returns-clause-settled : goal.returns-clause-settled
returns-clause-settled g c =
    subst (λ (s : UndoState). WellFormed (settled_of s)) c.self.view_is (settled_form _ (reverse c.self.inside.steps.items) c.self.invariant.form c.self.invariant.undos)

pub returns-clause-laid : goal.returns-clause-laid
returns-clause-laid g c none =
    let is = c.self.view_is in
    sym (ap (λ s. s.laid_then) is) ∙ first_is _ (reverse c.self.inside.steps.items) c.self.inside.stock.laid (none_past _ _ (ap (λ s. s.past) is ∙ none)) ∙ ap (λ s. s.laid) is

pub returns-clause-still : goal.returns-clause-still
returns-clause-still g c =
    let is = c.self.view_is in
    let now = g.T.TreeLike.nodes c.self.inside.tree in
    subst (λ (s : UndoState). StillLaid s.laid s.laid_then) is (stays now (reverse c.self.inside.steps.items) c.self.inside.stock c.self.invariant.away)
