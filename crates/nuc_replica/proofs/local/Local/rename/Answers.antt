use Rattle.std.proofs.Common.{◌∙◌, ap}
use Rattle.std.specs.FinMap.{insert}
use Rattle.nuc_replica.proofs.Locals.{sound_renamed}
use Rattle.nuc_replica.proofs.local.Local.rename.Goals as goal

pub invariant_of-self : goal.invariant_of-self
invariant_of-self g c =
    let renamed = c.rename.ensures in
    let given = c.put_key.ensures in
    let taken = c.cut_key.ensures in
    sound_renamed c.self-2.inside.tree c.self-2.inside.keys c.self-2.inside.before c.self-2.invariant c.rename.new.tree c.put_key.new.keys renamed.form given.sound renamed.rewritten.settled
    (given.changed.settled ∙ taken.changed.settled) c.args.id.0 c.args.to.0 c.in-Some.held.0 c.args.node renamed.now
    (given.now ∙ ap (λ ks. insert ks c.args.to.0 c.in-Some.held.0) taken.now)
