use Rattle.std.proofs.Common.{ap, ◌∙◌}
use Rattle.std.specs.FinMap.{insert, remove}
use Rattle.nuc_replica.proofs.Locals.{has_key, laid_inside, sound_moved}
use Rattle.nuc_replica.proofs.local.Local.hand_over.Goals as goal

pub unreachable-requires : goal.unreachable-requires
unreachable-requires g c =
    has_key c.self.inside.tree c.self.inside.keys c.self.inside.before _ c.self.view_is c.self.invariant.now.follow c.args.id.0 c.args.to.0 c.args.number c.requires.other c.requires.cut.there c.in_default.ensures

pub invariant_of-self : goal.invariant_of-self
invariant_of-self g c =
    let put = c.put_laid.ensures in
    let cut = c.in-Ok.ensures in
    let given = c.put_key.ensures in
    let taken = c.cut_key.ensures in
    let lies = laid_inside c.self.inside.tree c.self.inside.keys c.self.inside.before _ c.self.view_is c.args.number _ c.requires.put in
    sound_moved c.self.inside.tree c.self.inside.keys c.self.inside.before c.self.invariant c.cut.new.self c.put_key.new.keys cut.form given.sound (cut.settled ∙ put.settled)
    (given.changed.settled ∙ taken.changed.settled) c.args.id.0 c.args.to.0 c.in-Some.key.0 _ _ lies c.requires.other
    (cut.ok ∙ ap (λ m. remove m c.args.id.0) put.now) (given.now ∙ ap (λ ks. insert ks c.args.to.0 c.in-Some.key.0) taken.now)
