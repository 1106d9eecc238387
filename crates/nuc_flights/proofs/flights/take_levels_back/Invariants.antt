use Rattle.std.proofs.Common.{◌≡◌}
use Rattle.nuc_flights.specs.Slots.{back_slot}
use Rattle.nuc_flights.proofs.Flying.{mapped_to}
use Rattle.nuc_flights.proofs.flights.take_levels_back.Given as goal

abbrev pub invariant-loop-slot : goal.invariant-loop-slot
invariant-loop-slot l = l.slot-items ≡ mapped_to l.slot-index back_slot l.initial.slot-items
