use Rattle.std.proofs.Common.{[], ◌∷◌, sym, subst}
use Rattle.nuc_sync.specs.Asked.{asked_tasks}
use Rattle.nuc_sync.specs.Runs.{Runs, stays}
use Rattle.nuc_sync.specs.Tasks.{plans}
use Rattle.nuc_sync.specs.declared.replies.Asked.{Asked}
use Rattle.nuc_sync.proofs.planning.follow.Goals as goal

pub returns-in-Nothing-clause-ok : goal.returns-in-Nothing-clause-ok
returns-in-Nothing-clause-ok g c =
    let w = c.args.world.now in
    subst (λ (a : Asked). Runs w (asked_tasks c.args.client c.args.backwards a) w []) (sym c.in-Nothing.is) (stays w [])

pub returns-in-Plan-clause-ok : goal.returns-in-Plan-clause-ok
returns-in-Plan-clause-ok g c =
    let w = c.args.world.now in
    let ts = plans c.args.client c.args.backwards ∷ [] in
    subst (λ (a : Asked). Runs w (asked_tasks c.args.client c.args.backwards a) w ts) (sym c.in-Plan.is) (stays w ts)
