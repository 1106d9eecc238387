use Rattle.std.proofs.Common.{Some, subst, sym}
use Rattle.nuc_base.specs.Trees.{IsThere}
use Rattle.nuc_replica.specs.Local.{LocalState}
use Rattle.nuc_replica.proofs.Locals.{sound_over, there_inside}
use Rattle.nuc_replica.proofs.local.Local.put.Goals as goal

pub invariant_of-self : goal.invariant_of-self
invariant_of-self g c =
    let put = c.in-Ok.ensures in
    let before = subst (λ (s : LocalState). IsThere s.tree c.args.id.0) (sym c.in_ok-reserve.ensures.keeps.now) c.requires.there in
    let there = there_inside c.self.inside.tree c.self.inside.keys c.self.inside.before _ c.self.view_is c.args.id.0 before in
    sound_over c.self.inside.tree c.self.inside.keys c.self.inside.before c.self.invariant c.put.new.self c.args.id.0 (Some c.args.node) there put.ok put.form put.settled
