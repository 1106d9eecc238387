use Rattle.std.proofs.Common.{◌≡◌, None, Some, sym, ap, subst, inr, arith}
use Rattle.std.specs.FinMap as tree
use Rattle.nuc_base.specs.Trees.{Nodes}
use Rattle.nuc_base.specs.declared.node.Counters.{Counters}
use Rattle.nuc_base.specs.declared.node.Kind.{Kind}
use Rattle.nuc_journal.specs.Entries.{tree_of}
use Rattle.nuc_server.specs.WebEdits.{EndsFile, IsNextId}
use Rattle.nuc_server.proofs.Fresh.{below, next_answered, next_push}
use Rattle.nuc_server.proofs.Removing.{folder_answered, legal_end}
use Rattle.nuc_server.proofs.remove.remove.Goals as goal

pub enter-requires-clause-legal : goal.enter-requires-clause-legal
enter-requires-clause-legal c =
    legal_end c.tree-tree.result.now.nodes (tree_of c.args.server.now.now) c.in-Some.id.0 c.in-Some.node.now c.tree-tree.ensures.nodes c.in-Some.ensures.0 c.if-has_child.ensures

pub end_file-requires-clause-legal : goal.end_file-requires-clause-legal
end_file-requires-clause-legal c =
    legal_end c.tree-tree.result.now.nodes (tree_of c.args.server.now.now) c.in-Some.id.0 c.in-Some.node.now c.tree-tree.ensures.nodes c.in-Some.ensures.0 c.if-has_child.ensures

pub returns-in-Folder-clause-answers : goal.returns-in-Folder-clause-answers
returns-in-Folder-clause-answers c =
    let es = c.args.server.now.now in
    let x = c.in-Some.id.0 in
    let n = c.in-Some.node.now in
    let at = subst (λ (m : Nodes). tree.get m x ≡ Some n) c.tree-tree.ensures.nodes c.in-Some.ensures.0 in
    let legal = legal_end c.tree-tree.result.now.nodes (tree_of es) x n c.tree-tree.ensures.nodes c.in-Some.ensures.0 c.if-has_child.ensures in
    inr (x, n, at, c.in-Some.ensures.1, folder_answered es c.args.edits.now.now c.args.ids.now x n c.enter.result c.enter.new.self.now legal c.in-Folder.is c.enter.ensures.answers)

pub returns-in-Folder-clause-identities : goal.returns-in-Folder-clause-identities
returns-in-Folder-clause-identities c =
    let es = c.args.server.now.now in
    let x = c.in-Some.id.0 in
    let n = c.in-Some.node.now in
    let next = c.args.ids.now.next_id in
    let at = subst (λ (m : Nodes). tree.get m x ≡ Some n) c.tree-tree.ensures.nodes c.in-Some.ensures.0 in
    next_answered next es c.requires.identities x None c.enter.result c.enter.new.self.now (below next es c.requires.identities x n at) c.enter.ensures.answers

pub returns-in-Ok-clause-answers : goal.returns-in-Ok-clause-answers
returns-in-Ok-clause-answers c =
    let es = c.args.server.now.now in
    let x = c.in-Some.id.0 in
    let n = c.in-Some.node.now in
    let at = subst (λ (m : Nodes). tree.get m x ≡ Some n) c.tree-tree.ensures.nodes c.in-Some.ensures.0 in
    let legal = legal_end c.tree-tree.result.now.nodes (tree_of es) x n c.tree-tree.ensures.nodes c.in-Some.ensures.0 c.if-has_child.ensures in
    let ends = subst (λ (k : Kind). EndsFile k x n.ver.0 c.args.edits.now.now c.args.ids.now c.end_file.new.edits.now c.end_file.new.ids) (sym c.in-File.is)
    (c.in-Ok.ensures.edits, c.in-Ok.ensures.ids) in
    inr (x, n, at, c.in-Some.ensures.1, (legal, c.in-Ok.ensures.rev, ends))

pub returns-in-Ok-clause-identities : goal.returns-in-Ok-clause-identities
returns-in-Ok-clause-identities c =
    let es = c.args.server.now.now in
    let x = c.in-Some.id.0 in
    let n = c.in-Some.node.now in
    let next = c.args.ids.now.next_id in
    let now = c.end_file.new.server.now in
    let at = subst (λ (m : Nodes). tree.get m x ≡ Some n) c.tree-tree.ensures.nodes c.in-Some.ensures.0 in
    subst (λ i. IsNextId i now) (sym (ap (λ (ids : Counters). ids.next_id) c.in-Ok.ensures.ids))
    (next_push next es c.requires.identities next x None c.in-Ok.rev now (below next es c.requires.identities x n at) (omega arith) c.in-Ok.ensures.rev)
