use Rattle.std.proofs.Common.{length, map, sym, ◌∙◌, ap, arith}
use Rattle.nuc_flights.specs.Slots.{settled_slot}
use Rattle.nuc_flights.proofs.Flying.{in_place, mapped_all, mapped_length, mapped_so}
use Rattle.nuc_flights.proofs.flights.note_levels.Goals as goal

pub loop-slot-preserved : goal.loop-slot-preserved
loop-slot-preserved c = mapped_so settled_slot c.deref_mut-slot-items.result.now _ c.loop-slot.slot-index _ c.loop-slot.invariant (omega arith)

pub returns : goal.returns
returns c =
    let xs = c.deref_mut-slot-items.result.now in
    let value = c.deref_mut-slot-items.ensures.value in
    let long = ap length c.loop-slot.invariant ∙ mapped_length c.loop-slot.slot-index settled_slot xs in
    in_place _ c.args.slots.now.items c.loop-slot.slot-items (long ∙ ap length value) (sym (ap length value) ∙ c.deref_mut-slot-items.ensures.len)
    ∙ c.loop-slot.invariant ∙ mapped_all settled_slot xs c.loop-slot.slot-index (omega arith) ∙ ap (map settled_slot) value
