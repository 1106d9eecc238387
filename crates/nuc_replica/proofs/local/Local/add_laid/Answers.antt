use Rattle.nuc_replica.proofs.Locals.{laid_inside, sound_with}
use Rattle.nuc_replica.proofs.local.Local.add_laid.Goals as goal

pub invariant_of-self : goal.invariant_of-self
invariant_of-self g c =
    let put = c.put_laid.ensures in
    let given = c.put_key.ensures in
    let lies = laid_inside c.self.inside.tree c.self.inside.keys c.self.inside.before _ c.self.view_is c.args.number _ c.requires.legal in
    sound_with c.self.inside.tree c.self.inside.keys c.self.inside.before c.self.invariant c.put_laid.new.self c.put_key.new.keys put.form given.sound put.settled given.changed.settled c.args.id.0 c.args.key.0
    _ _ lies put.now given.now
