use Rattle.std.proofs.Common.{subst}
use Rattle.nuc_base.specs.Trees.{Nodes, IsFolder}
use Rattle.nuc_paths.proofs.Following.{leads_folder}
use Rattle.nuc_folder.proofs.user_change.write.Goals as goal

pub write_new-written-requires-clause-folder : goal.write_new-written-requires-clause-folder
write_new-written-requires-clause-folder c =
    subst (λ (m : Nodes). IsFolder m c.in-Some.parent.0) c.tree-tree.ensures.nodes
    (leads_folder c.tree-tree.result.now.nodes 0 c.as_slice.result.now c.in-Some.parent.0 c.in-Some.name.now c.in-Some.ensures)
