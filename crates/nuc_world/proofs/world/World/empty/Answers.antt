use Rattle.nuc_world.proofs.Keeping.{kept_opened}
use Rattle.nuc_world.proofs.world.World.empty.Goals as goal

pub invariant_of-result : goal.invariant_of-result
invariant_of-result g c =
    let members = c.in_ok-new_members.ensures in
    kept_opened c.new.result _ _ c.in_ok-opened.field-0 c.args.clients c.new.ensures.now members.now c.in_ok-opened.ensures c.requires.some c.requires.few
    c.new.ensures.settled members.settled
