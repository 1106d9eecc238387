use Rattle.std.proofs.Common.{◌≡◌, ◌+◌, refl, sym, subst, arith, rules}
use Rattle.nuc_base.specs.Kinds.{FitsKind}
use Rattle.nuc_base.specs.Legal.{LegalPut}
use Rattle.nuc_base.specs.Trees.{Nodes, IsVacant, WellFormed}
use Rattle.nuc_base.specs.declared.node.Node.{Node}
use Rattle.nuc_journal.specs.Entries.{tree_of}
use Rattle.nuc_paths.specs.Paths.{place_in}
use Rattle.nuc_server.specs.WebEdits.{folder_at}
use Rattle.nuc_server.proofs.Fresh.{next_push, no_kind, nobody}
use Rattle.nuc_server.proofs.Putting.{any_kind, legal_new}
use Rattle.nuc_server.proofs.mkdir.mkdir.Goals as goal

pub enter-reply-requires-clause-kind : goal.enter-reply-requires-clause-kind
enter-reply-requires-clause-kind c =
    any_kind c.args.server.now.now c.args.ids.now.next_id c.in-Ok.folder.kind (no_kind c.args.ids.now.next_id c.args.server.now.now c.requires.identities)

pub enter-reply-requires-clause-legal : goal.enter-reply-requires-clause-legal
enter-reply-requires-clause-legal c =
    let es = c.args.server.now.now in
    let next = c.args.ids.now.next_id in
    let node = folder_at (place_in c.args.parent.0 c.args.name.now) in
    let vacant = subst (λ (m : Nodes). IsVacant m node.place) c.tree.ensures.nodes c.in_default.ensures in
    subst (λ (n : Node). FitsKind n × LegalPut (tree_of es) next n) (sym c.in-Ok.ensures) (
      (refl, refl),
      legal_new (tree_of es) next node (subst WellFormed c.tree.ensures.nodes c.tree.ensures.form) c.requires.identities.some
          (nobody next es c.requires.identities) c.requires.folder vacant,
    )

pub returns-in-Accepted-clause-identities : goal.returns-in-Accepted-clause-identities
returns-in-Accepted-clause-identities c =
    let next = c.args.ids.now.next_id in
    let raised : c.in-Some-checked_add.next_id ≡ next + 1 = search (rules, c.in-Some-checked_add.ensures) in
    next_push next c.args.server.now.now c.requires.identities c.in-Some-checked_add.next_id next _ _ _ (omega (arith, raised)) (omega (arith, raised)) c.in-Accepted.ensures.answers
