use Rattle.std.proofs.Common.{sym, subst}
use Rattle.nuc_base.specs.Trees.{Nodes, IsFolder}
use Rattle.nuc_base.specs.declared.node.Node.{Node}
use Rattle.nuc_journal.specs.Entries.{tree_of}
use Rattle.nuc_paths.proofs.Following.{leads_folder}
use Rattle.nuc_server.proofs.relocate.relocate.Goals as goal

pub put_at-requires-clause-parent : goal.put_at-requires-clause-parent
put_at-requires-clause-parent c =
    let p = c.in-Some-follow.parent.0 in
    let folder = leads_folder c.tree-tree.result.now.nodes 0 c.as_slice.result.now p c.in-Some-follow.name.now c.in-Some-follow.ensures in
    subst (λ (n : Node). IsFolder (tree_of c.args.server.now.now) n.place.parent.0) (sym c.in-Ok.ensures)
    (subst (λ (m : Nodes). IsFolder m p) c.tree-tree.ensures.nodes folder)
