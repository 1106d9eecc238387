use Rattle.std.proofs.Common.{ap, sym, ◌∙◌}
use Rattle.std.specs.FinMap.{get}
use Rattle.nuc_folder.proofs.Removing.{cut_already}
use Rattle.nuc_folder.proofs.removal.cut.Goals as goal

pub returns-in-None-clause-now : goal.returns-in-None-clause-now
returns-in-None-clause-now c =
    cut_already c.args.shelf.now.now c.args.key c.requires.shelf (sym (c.in-None.ensures ∙ ap (λ m. get m c.args.key) c.tree.ensures.nodes))
