use Rattle.std.proofs.Common.{◌<◌, ◌≤◌, ◌+◌, ◌∙◌, ap, sym, subst, length, arith}
use Rattle.nuc_replica.specs.Remote.{RemoteState, RemoteStates, caught_up}
use Rattle.nuc_replica.proofs.Followed.{caught_up_on, within_on}
use Rattle.nuc_replica.proofs.remote.Remote.catch_up.Goals as goal

pub loop-self-preserved : goal.loop-self-preserved
loop-self-preserved g c =
    let now = c.loop-self.self.now in
    let at = ap (λ (s : RemoteStates). s.now.cursor) c.self.view_is in
    let lt : now.cursor < c.args.rev = omega (arith, c.loop-self-test.true, at) in
    let one = c.apply_next.ensures in
    record {
      within = subst (λ (s : RemoteState). c.args.rev ≤ s.cursor + length s.ahead) (sym one.now) (within_on now c.args.rev lt c.loop-self.invariant.within);
      same = ap (caught_up c.args.rev) one.now ∙ caught_up_on now c.args.rev lt c.loop-self.invariant.within ∙ c.loop-self.invariant.same;
      settled = one.settled ∙ c.loop-self.invariant.settled;
    }
