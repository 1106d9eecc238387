use Rattle.std.proofs.Common.{ap, arith, vec_capacity}
use Rattle.nuc_lookup.proofs.Undoing.{none_kept, room_now, spare_stays}
use Rattle.nuc_lookup.proofs.undo_lookup.UndoLookup.settle.Goals as goal

pub invariant_of-self : goal.invariant_of-self
invariant_of-self c =
    let was = c.self.invariant in
    none_kept c.self.inside.lookup c.clear.new.self.items c.len-self-inside.result c.clear.ensures.items c.len-self-inside.ensures
    (room_now c.self.inside.lookup c.self.inside.undos.items c.self.inside.settled_len was)

pub returns-clause-spare : goal.returns-clause-spare
returns-clause-spare c =
    let spare = ap (λ s. s.spare) c.self.view_is in
    let cap = c.clear.ensures.capacity in
    let stays = spare_stays c.self.inside.lookup c.self.inside.undos.items c.clear.new.self.items c.self.inside.settled_len c.len-self-inside.result
    (vec_capacity c.self.inside.undos) c.self.invariant c.clear.ensures.items c.len-self-inside.ensures in
    omega (arith, spare, cap, stays)
