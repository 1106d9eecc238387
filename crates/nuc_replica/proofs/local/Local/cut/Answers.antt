use Rattle.nuc_replica.proofs.Locals.{sound_without}
use Rattle.nuc_replica.proofs.local.Local.cut.Goals as goal

pub invariant_of-self : goal.invariant_of-self
invariant_of-self g c =
    let cut = c.in-Ok.ensures in
    let taken = c.cut_key.ensures in
    sound_without c.self.inside.tree c.self.inside.keys c.self.inside.before c.self.invariant c.cut.new.self c.cut_key.new.keys cut.form taken.sound cut.settled taken.changed.settled c.args.id.0 cut.ok taken.now
