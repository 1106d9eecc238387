use Rattle.std.proofs.Common.{subst}
use Rattle.nuc_base.specs.Trees.{Nodes, IsFolder}
use Rattle.nuc_paths.proofs.Following.{leads_folder}
use Rattle.nuc_server.proofs.server.LoopServer.web.Goals as goal

pub web_at-requires-clause-folder : goal.web_at-requires-clause-folder
web_at-requires-clause-folder c =
    let p = c.in-Some.parent.0 in
    subst (λ (m : Nodes). IsFolder m p) c.tree.ensures.nodes (leads_folder c.tree.result.now.nodes 0 c.as_slice.result.now p c.in-Some.name.now c.in-Some.ensures)
