use Rattle.std.proofs.Common.{sym, subst}
use Rattle.nuc_base.specs.Trees.{WellFormed}
use Rattle.nuc_journal.proofs.Journals.{form_of}
use Rattle.nuc_server.proofs.server.LoopServer.tree.Goals as goal

pub returns-clause-form : goal.returns-clause-form
returns-clause-form c = subst WellFormed (sym c.self.invariant.tree) (form_of _ c.self.invariant.journal)
