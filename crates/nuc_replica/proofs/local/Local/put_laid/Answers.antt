use Rattle.nuc_replica.proofs.Locals.{sound_over, there_inside}
use Rattle.nuc_replica.proofs.local.Local.put_laid.Goals as goal

pub invariant_of-self : goal.invariant_of-self
invariant_of-self g c =
    let put = c.put_laid.ensures in
    let there = there_inside c.self.inside.tree c.self.inside.keys c.self.inside.before _ c.self.view_is c.args.id.0 c.requires.there in
    sound_over c.self.inside.tree c.self.inside.keys c.self.inside.before c.self.invariant c.put_laid.new.self c.args.id.0 _ there put.now put.form put.settled
