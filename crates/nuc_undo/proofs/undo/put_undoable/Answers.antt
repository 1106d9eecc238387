use Rattle.std.proofs.Common.{sym, ◌∙◌}
use Rattle.nuc_undo.proofs.Undoing.{removes, replaces}
use Rattle.nuc_undo.proofs.undo.put_undoable.Goals as goal

pub returns-in-Some-clause-undo : goal.returns-in-Some-clause-undo
returns-in-Some-clause-undo g c = rw c.in_ok-before.ensures.put (replaces _ c.args.id c.args.node c.in-Some.before c.requires.form c.requires.id c.requires.legal (sym c.in_ok-before.ensures.before ∙ c.in-Some.is))

pub returns-in-None-clause-undo : goal.returns-in-None-clause-undo
returns-in-None-clause-undo g c = rw c.in_ok-before.ensures.put (removes _ c.args.id c.args.node c.requires.form c.requires.id c.requires.legal (sym c.in_ok-before.ensures.before ∙ c.in-None.is))
