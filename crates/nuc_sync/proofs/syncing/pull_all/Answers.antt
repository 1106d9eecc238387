use Rattle.std.proofs.Common.{[], ◌∷◌, Bool, cond, subst}
use Rattle.std.proofs.lemmas.Result.{err_from_is_err_and}
use Rattle.nuc_sync.specs.Runs.{Runs, stays}
use Rattle.nuc_sync.specs.Tasks.{pulls}
use Rattle.nuc_sync.proofs.Running.{breaks_on, runs_on}
use Rattle.nuc_sync.proofs.syncing.pull_all.Goals as goal

pub pulls-init : goal.pulls-init
pulls-init g c = stays c.args.world.now (pulls c.args.client ∷ [])

pub returns-in_err-pull-clause-err : goal.returns-in_err-pull-clause-err
returns-in_err-pull-clause-err g c =
    let ts = pulls c.args.client ∷ [] in
    let p = err_from_is_err_and c.from_residual.result c.from_residual.ensures.1 in
    rw (p.1, p.2) (breaks_on c.args.world.now ts c.pulls.world ts c.pulls.invariant _ c.pull.new.world c.in_err-pull.ensures.err)

pub returns-then-not-branch-clause-ok : goal.returns-then-not-branch-clause-ok
returns-then-not-branch-clause-ok g c =
    let ts = pulls c.args.client ∷ [] in
    let v = c.pull.new.world in
    let last = subst (λ (b : Bool). Runs c.pulls.world ts v (cond b ts [])) c.if-not-branch.true c.in_ok-pull.ensures.ok in
    runs_on c.args.world.now ts c.pulls.world ts c.pulls.invariant v [] last

pub pulls-preserved : goal.pulls-preserved
pulls-preserved g c =
    let ts = pulls c.args.client ∷ [] in
    let v = c.pull.new.world in
    let last = subst (λ (b : Bool). Runs c.pulls.world ts v (cond b ts [])) c.if-not-branch.false c.in_ok-pull.ensures.ok in
    runs_on c.args.world.now ts c.pulls.world ts c.pulls.invariant v ts last
