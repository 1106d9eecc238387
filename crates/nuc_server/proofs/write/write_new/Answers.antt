use Rattle.std.proofs.Common.{◌≡◌, ◌+◌, sym, subst, arith, rules}
use Rattle.nuc_base.specs.Legal.{LegalPut}
use Rattle.nuc_base.specs.declared.node.Kind.TheVariants.{File}
use Rattle.nuc_base.specs.declared.node.Node.{Node}
use Rattle.nuc_journal.specs.Entries.{tree_of}
use Rattle.nuc_journal.proofs.Journals.{form_of}
use Rattle.nuc_paths.specs.Paths.{place_in}
use Rattle.nuc_server.specs.WebEdits.{file_at}
use Rattle.nuc_server.proofs.Fresh.{next_push, no_kind, nobody}
use Rattle.nuc_server.proofs.Putting.{any_kind, legal_new}
use Rattle.nuc_server.proofs.write.write_new.Goals as goal

pub put_version-requires-clause-kind : goal.put_version-requires-clause-kind
put_version-requires-clause-kind c = any_kind c.args.server.now.now c.args.ids.now.next_id File (no_kind c.args.ids.now.next_id c.args.server.now.now c.requires.identities)

pub put_version-requires-clause-legal : goal.put_version-requires-clause-legal
put_version-requires-clause-legal c =
    let es = c.args.server.now.now in
    let next = c.args.ids.now.next_id in
    subst (λ (n : Node). LegalPut (tree_of es) next n) (sym c.in-Ok.ensures)
    (legal_new (tree_of es) next (file_at (place_in c.args.parent.0 c.args.name.now) 0) (form_of es c.requires.journal) c.requires.identities.some
    (nobody next es c.requires.identities) c.requires.folder c.requires.vacant)

pub returns-in-Ok-put_version-clause-identities : goal.returns-in-Ok-put_version-clause-identities
returns-in-Ok-put_version-clause-identities c =
    let next = c.args.ids.now.next_id in
    let raised : c.in-Some.next_id ≡ next + 1 = search (rules, c.in-Some.ensures) in
    next_push next c.args.server.now.now c.requires.identities c.in-Some.next_id next _ _ _ (omega (arith, raised)) (omega (arith, raised))
    c.in-Ok-put_version.ensures.ok.entries
