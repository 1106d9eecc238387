use Rattle.std.proofs.Common.{◌+◌, ◌∙◌, ap, length}
use Rattle.nuc_replica.specs.Ahead.{state_now}
use Rattle.nuc_replica.specs.Remote.{RemoteStates}
use Rattle.nuc_replica.proofs.Followed.{last_known}
use Rattle.nuc_replica.proofs.remote.Remote.known.Goals as goal

pub returns-in-Some : goal.returns-in-Some
returns-in-Some g c =
    let inside = c.self.inside in
    let s = state_now inside.tree inside.revisions inside.cursor inside.ahead in
    last_known s c.in-Some.entry.now c.rest.result.now c.in-Some.ensures.value c.rest.ensures.rest c.self.invariant.now
    ∙ ap (λ (s : RemoteStates). s.now.cursor + length s.now.ahead) c.self.view_is
