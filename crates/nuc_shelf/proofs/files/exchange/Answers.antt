use Rattle.std.proofs.Common.{ap, sym, ◌∙◌}
use Rattle.nuc_shelf.specs.Files.{bytes_of, led}
use Rattle.nuc_shelf.proofs.Bytes.{says, updated}
use Rattle.nuc_shelf.proofs.files.exchange.Goals as goal

pub returns-in-Ok-clause-now : goal.returns-in-Ok-clause-now
returns-in-Ok-clause-now c =
    updated _ _ c.args.key _ c.in-Ok.ensures.updates.0 ∙ ap (led (bytes_of c.args.files.now.entries) c.args.key) (sym c.in-Some.is)

pub returns-in-Ok-clause-before : goal.returns-in-Ok-clause-before
returns-in-Ok-clause-before c = c.in-Ok.ensures.old ∙ sym (says c.args.files.now.entries c.args.key)

pub returns-in-None-clause-now : goal.returns-in-None-clause-now
returns-in-None-clause-now c =
    updated _ _ c.args.key _ c.swap_remove.ensures.updates.0 ∙ ap (led (bytes_of c.args.files.now.entries) c.args.key) (sym c.in-None.is)

pub returns-in-None-clause-before : goal.returns-in-None-clause-before
returns-in-None-clause-before c = c.swap_remove.ensures.value ∙ sym (says c.args.files.now.entries c.args.key)
