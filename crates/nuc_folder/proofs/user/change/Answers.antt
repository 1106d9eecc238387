use Rattle.std.proofs.Common.{IfErr, sym, subst}
use Rattle.nuc_folder.specs.UserEdits.{Refused}
use Rattle.nuc_folder.specs.declared.user_edit.UserEdit.{UserEdit}
use Rattle.nuc_folder.specs.declared.user_edit.UserReply.{UserReply}
use Rattle.nuc_folder.proofs.user.change.Goals as goal

pub returns-in-Move-clause-refused : goal.returns-in-Move-clause-refused
returns-in-Move-clause-refused c =
    subst (λ (e : UserEdit). IfErr c.move_to.result (λ (answer : UserReply). Refused e c.args.shelf.now.now.tree answer)) (sym c.in-Move.is) c.move_to.ensures.refused
