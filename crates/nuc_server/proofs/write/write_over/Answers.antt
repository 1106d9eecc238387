use Rattle.std.proofs.Common.{◌≡◌, refl, sym, ap, subst, arith, rules}
use Rattle.nuc_base.specs.declared.node.Counters.{Counters}
use Rattle.nuc_base.specs.declared.node.Kind.TheVariants.{File}
use Rattle.nuc_journal.specs.Entries.{tree_of}
use Rattle.nuc_journal.proofs.Journals.{form_of}
use Rattle.nuc_server.specs.WebEdits.{IsNextId}
use Rattle.nuc_server.proofs.Fresh.{below, next_push}
use Rattle.nuc_server.proofs.Putting.{above_root, legal_here, own_kind}
use Rattle.nuc_server.proofs.write.write_over.Goals as goal

pub put_version-requires-clause-id : goal.put_version-requires-clause-id
put_version-requires-clause-id c =
    above_root (tree_of c.args.server.now.now) c.args.id.0 c.args.node (form_of c.args.server.now.now c.requires.journal) c.requires.node

pub put_version-requires-clause-kind : goal.put_version-requires-clause-kind
put_version-requires-clause-kind c =
    let file : c.args.node.kind ≡ File = search rules in
    own_kind c.args.server.now.now c.args.id.0 c.args.node File c.requires.journal c.requires.node (sym file)

pub put_version-requires-clause-legal : goal.put_version-requires-clause-legal
put_version-requires-clause-legal c =
    let es = c.args.server.now.now in
    legal_here (tree_of es) c.args.id.0 c.args.node c.args.node (form_of es c.requires.journal) c.requires.node refl refl

pub returns-in-Ok-put_version-clause-identities : goal.returns-in-Ok-put_version-clause-identities
returns-in-Ok-put_version-clause-identities c =
    let es = c.args.server.now.now in
    let x = c.args.id.0 in
    let next = c.args.ids.now.next_id in
    let now = c.put_version.new.server.now in
    subst (λ i. IsNextId i now) (sym (ap (λ (ids : Counters). ids.next_id) c.in-Ok-put_version.ensures.ids))
    (next_push next es c.requires.identities next x _ _ now (below next es c.requires.identities x c.args.node c.requires.node) (omega arith)
    c.in-Ok-put_version.ensures.ok.entries)
