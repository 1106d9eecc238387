use Rattle.std.specs.Prelude.{All}
use Rattle.std.proofs.Common.{sym, ◌∙◌, ap, subst}
use Rattle.nuc_flights.specs.Flights.{FlightsState}
use Rattle.nuc_flights.specs.Slots.{IsSound, flights_now, flights_were}
use Rattle.nuc_flights.proofs.Flying.{away_sound, all_away, away_were}
use Rattle.nuc_flights.proofs.flights.Flights.clear.Goals as goal

pub invariant_of-self : goal.invariant_of-self
invariant_of-self c = subst (All IsSound) (sym c.put_away.ensures) (away_sound c.self.inside.slots.items c.self.invariant)

pub returns-clause-now : goal.returns-clause-now
returns-clause-now c = ap flights_now c.put_away.ensures ∙ all_away c.self.inside.slots.items

pub returns-clause-settled : goal.returns-clause-settled
returns-clause-settled c = ap flights_were c.put_away.ensures ∙ away_were c.self.inside.slots.items ∙ ap (λ (s : FlightsState). s.settled) c.self.view_is
