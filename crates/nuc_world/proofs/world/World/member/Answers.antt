use Rattle.std.proofs.Common.{◌<◌, ◌∙◌, subst}
use Rattle.nuc_world.proofs.Seen.{known_at}
use Rattle.nuc_world.proofs.world.World.member.Goals as goal

pub returns : goal.returns
returns g c =
    let members = c.self.inside.members in
    let place = c.in_ok-index in
    let below = subst (λ n. place.index < n) (c.len.ensures ∙ members.ok.0) place.ensures.1 in
    known_at _ members.items place.index c.args.client c.index.result.now _ _ c.args.self.now c.self.view_is place.ensures.0 below c.index.ensures
