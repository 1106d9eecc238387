use Rattle.std.proofs.Common.{◌≡◌}
use Rattle.nuc_flights.specs.Slots.{away_slot}
use Rattle.nuc_flights.proofs.Flying.{mapped_to}
use Rattle.nuc_flights.proofs.flights.put_away.Given as goal

abbrev pub invariant-loop-slot : goal.invariant-loop-slot
invariant-loop-slot l = l.slot-items ≡ mapped_to l.slot-index away_slot l.initial.slot-items
