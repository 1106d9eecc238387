use Rattle.std.proofs.Common.{sym, subst, ◌∙◌}
use Rattle.nuc_base.specs.Legal.{LegalPut}
use Rattle.nuc_base.specs.Trees.{Nodes}
use Rattle.nuc_undo.proofs.Laid.{laid_legal, lies_there}
use Rattle.nuc_undo.proofs.tests.swaps_and_puts.Goals as goal

pub put_laid-requires-clause-legal : goal.put_laid-requires-clause-legal
put_laid-requires-clause-legal c =
    let swapped = c.swap_laid.ensures in
    laid_legal c.swap_laid.new.self.laid 4 c.swap_laid.new.self.now c.args.id.0 c.args.node (lies_there _ _ 4 c.args.node (swapped.laid ∙ c.in_ok-lay_by.ensures.laid))
    (subst (λ (m : Nodes). LegalPut m c.args.id.0 c.args.node) (sym (swapped.tree.now ∙ c.in_ok-reserve.ensures.keeps.now)) c.requires.legal)
