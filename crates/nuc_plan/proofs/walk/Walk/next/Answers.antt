use Rattle.std.proofs.Common.{rules, ◌≡◌, None, Some, MatchOption, sym, ap, subst, ◌∙◌}
use Rattle.std.specs.Prelude.{slice_get}
use Rattle.std.specs.FinMap.{keys}
use Rattle.nuc_plan.specs.Walk as spec
use Rattle.nuc_plan.proofs.Walking.{goes_past, walk_ended}
use Rattle.nuc_plan.proofs.walk.Walk.next.Goals as goal

pub returns-in_err-id : goal.returns-in_err-id
returns-in_err-id g c below passed =
    let r = g.T.TreeLike.nodes c.args.r.now in
    let l = g.T.TreeLike.nodes c.args.l.now in
    let s = g.T.TreeLike.nodes c.args.s.now in
    let walk = c.args.self.now in
    let none : spec.lesser (spec.lesser (slice_get (keys r) walk.remote) (slice_get (keys l) walk.local)) (slice_get (keys s) walk.synced) ≡ None = search rules in
    subst (λ o. MatchOption o (spec.AllPassed r l s below) (λ x. spec.GoesPast r l s below x.0 walk walk)) (sym c.from_residual.ensures)
    (walk_ended r l s below walk passed none)

pub returns : goal.returns
returns g c below passed =
    let r = g.T.TreeLike.nodes c.args.r.now in
    let l = g.T.TreeLike.nodes c.args.l.now in
    let s = g.T.TreeLike.nodes c.args.s.now in
    let walk = c.args.self.now in
    let found : spec.lesser (spec.lesser (slice_get (keys r) walk.remote) (slice_get (keys l) walk.local)) (slice_get (keys s) walk.synced) ≡ Some c.in_ok-id.id.0
    = search rules in
    goes_past r l s below walk passed c.in_ok-id.id.0 found _ c.behind-self.ensures c.behind-self-2.ensures c.behind-self-3.ensures
