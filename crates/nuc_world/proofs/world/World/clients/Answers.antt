use Rattle.std.proofs.Common.{◌∙◌, arith, refl}
use Rattle.nuc_world.proofs.Members.{few_members}
use Rattle.nuc_world.proofs.world.World.clients.Goals as goal

pub overflow_cast-result : goal.overflow_cast-result
overflow_cast-result g c =
    let members = c.self.inside.members in
    let few = few_members _ members.items _ _ c.self.invariant.reached refl in
    let many = c.len.ensures ∙ members.ok.0 in
    omega (arith, few, many)
