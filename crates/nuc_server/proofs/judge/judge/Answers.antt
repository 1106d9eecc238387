use Rattle.std.proofs.Common.{◌≡◌, sym, subst, rules}
use Rattle.nuc_base.specs.Trees.{WellFormed}
use Rattle.nuc_journal.specs.Entries.{revision_of}
use Rattle.nuc_journal.proofs.Journals.{form_of}
use Rattle.nuc_server.specs.Judge.{HasKindOf}
use Rattle.nuc_server.proofs.Judging.{there_in}
use Rattle.nuc_server.proofs.judge.judge.Goals as goal

pub check_value-requires-clause-form : goal.check_value-requires-clause-form
check_value-requires-clause-form g c = subst WellFormed (sym c.requires.tree) (form_of _ c.requires.journal)

pub check_value-requires-clause-there : goal.check_value-requires-clause-there
check_value-requires-clause-there g c =
    let current : c.args.commit.now.base ≡ revision_of c.args.journal.now.now c.args.commit.now.id.0 = search rules in
    there_in _ c.args.journal.now.now _ c.args.commit.now.base _ c.requires.tree c.requires.journal
    (subst (λ had. HasKindOf had c.args.commit.now.value) c.kind_of.ensures c.if-has_other_kind.ensures) c.requires.commit.live current
