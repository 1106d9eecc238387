use Rattle.std.proofs.Common.{Some}
use Rattle.std.specs.FinMap as tree
use Rattle.nuc_journal.specs.Entries.{tree_of}
use Rattle.nuc_server.proofs.Fresh.{next_answered, below}
use Rattle.nuc_server.proofs.Putting.{moved_from, own_kind}
use Rattle.nuc_server.proofs.relocate.put_at.Goals as goal

pub enter-requires-clause-kind : goal.enter-requires-clause-kind
enter-requires-clause-kind c =
    let es = c.args.server.now.now in
    let (n, at, kind) = moved_from (tree.get (tree_of es) c.args.id.0) c.args.node c.requires.before in
    own_kind es c.args.id.0 n c.args.node.kind c.requires.journal at kind

pub returns-in-Ok-clause-identities : goal.returns-in-Ok-clause-identities
returns-in-Ok-clause-identities c =
    let es = c.args.server.now.now in
    let (n, at, kind) = moved_from (tree.get (tree_of es) c.args.id.0) c.args.node c.requires.before in
    let less = below c.args.ids.now.next_id es c.requires.identities c.args.id.0 n at in
    next_answered c.args.ids.now.next_id es c.requires.identities c.args.id.0 (Some c.args.node) c.enter.result c.enter.new.self.now less c.enter.ensures.answers
