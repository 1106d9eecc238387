use Rattle.std.proofs.Common.{Some}
use Rattle.nuc_replica.proofs.Locals.{sound_with}
use Rattle.nuc_replica.proofs.local.Local.add.Goals as goal

pub invariant_of-self : goal.invariant_of-self
invariant_of-self g c =
    let put = c.in-Ok.ensures in
    let given = c.put_key.ensures in
    sound_with c.self.inside.tree c.self.inside.keys c.self.inside.before c.self.invariant c.put.new.self c.put_key.new.keys put.form given.sound put.settled given.changed.settled c.args.id.0 c.args.key.0
    (Some c.args.node) (λ _. Unit {0}) tt put.ok given.now
