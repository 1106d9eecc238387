use Rattle.std.proofs.Common.{subst}
use Rattle.nuc_edits.specs.Edits.{same_hash}
use Rattle.nuc_plan.specs.Plans.{IsPlan}
use Rattle.nuc_step.specs.Client.{ClientStates}
use Rattle.nuc_step.proofs.Noticed.{weaker_plan}
use Rattle.nuc_step.proofs.client.Client.due.Goals as goal

pub returns : goal.returns
returns g c =
    let same = same_hash c.args.edits.now.now.edits in
    let next = c.args.next_id in
    let inside = c.self.inside in
    let r = g.T.TreeLike.nodes c.tree-remote.result.now in
    let l = g.T.TreeLike.nodes c.tree-local.result.now in
    weaker_plan c.plan.result _ _
    (λ p is. (
      c.requires.idle,
      subst (λ (s : ClientStates). IsPlan same s.now.remote.tree s.now.local.tree s.now.synced next p) c.self.view_is
          (subst (λ m. IsPlan same m inside.local.now.tree inside.synced.now next p) c.tree-remote.ensures.nodes
          (subst (λ m. IsPlan same r m inside.synced.now next p) c.tree-local.ensures.nodes
          (subst (λ m. IsPlan same r l m next p) c.tree-synced.ensures.nodes is))),
    ))
    c.plan.ensures.plan
