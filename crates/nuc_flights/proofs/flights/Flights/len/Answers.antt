use Rattle.std.proofs.Common.{length, ◌∙◌, ap}
use Rattle.std.specs.List.{filter}
use Rattle.nuc_flights.specs.Flights.{FlightsState}
use Rattle.nuc_flights.specs.Slots.{is_kept}
use Rattle.nuc_flights.proofs.Flying.{count_is}
use Rattle.nuc_flights.proofs.flights.Flights.len.Goals as goal

pub returns : goal.returns
returns c =
    c.count_flying.ensures ∙ ap (λ xs. length (filter is_kept xs)) c.deref.ensures.value
    ∙ count_is c.self.inside.slots.items c.self.invariant ∙ ap (λ (s : FlightsState). length s.now) c.self.view_is
