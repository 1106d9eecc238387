use Rattle.std.proofs.Common.{subst, sym, take}
use Rattle.nuc_replica.specs.Remote.{Follows}
use Rattle.nuc_step.specs.Client.{ClientStates}
use Rattle.nuc_step.proofs.Kept.{front_follows, kept_pulled}
use Rattle.nuc_step.proofs.client.Client.pull.Goals as goal

pub invariant_of-self : goal.invariant_of-self
invariant_of-self g c =
    let inside = c.self.inside in
    let page = c.args.page.now in
    let follows = subst (λ (s : ClientStates). Follows s.now.remote page) (sym c.self.view_is) c.requires in
    let moved = c.in_err-pull.ensures.err in
    kept_pulled inside.remote c.pull.new.self inside.local inside.synced inside.flights inside.counts inside.settled_counts (take moved.0 page)
    moved.1 c.pull.ensures.settled (front_follows moved.0 inside.remote.now page follows) c.self.invariant

pub invariant_of-self-2 : goal.invariant_of-self-2
invariant_of-self-2 g c =
    let inside = c.self.inside in
    let page = c.args.page.now in
    let follows = subst (λ (s : ClientStates). Follows s.now.remote page) (sym c.self.view_is) c.requires in
    kept_pulled inside.remote c.pull.new.self inside.local inside.synced inside.flights inside.counts inside.settled_counts page
    c.in_ok-pull.ensures.ok c.pull.ensures.settled follows c.self.invariant
