use Rattle.std.specs.List.{position}
use Rattle.std.specs.Option.{option_map}
use Rattle.std.proofs.Common.{sym, ◌∙◌, ap, subst}
use Rattle.nuc_flights.specs.Flights.{Flight, FlightsState, flight_of}
use Rattle.nuc_flights.specs.Slots.{Finds, flies}
use Rattle.nuc_flights.proofs.Flying.{finds_hit, flight_is, found, found_sound, not_flying, stage_of}
use Rattle.nuc_flights.proofs.flights.Flights.op.Goals as goal

pub returns-in-None : goal.returns-in-None
returns-in-None c =
    let none = not_flying c.args.number c.self.inside.slots.items c.self.invariant (ap (position (flies c.args.number)) (sym c.deref.ensures.value) ∙ sym c.in-None.ensures) in
    sym (ap (option_map (λ (f : Flight). f.op)) (ap (λ (v : FlightsState). flight_of c.args.number v.now) (sym c.self.view_is) ∙ none))

pub returns-in-Some : goal.returns-in-Some
returns-in-Some c =
    let items = c.self.inside.slots.items in
    let there : Finds c.args.number items c.in-Some.at c.index.result.now = subst (Finds c.args.number items c.in-Some.at) (sym c.index.ensures)
    (found c.args.number items c.in-Some.at c.index.result.now (ap (position (flies c.args.number)) (sym c.deref.ensures.value) ∙ sym c.in-Some.ensures)) in
    let st = stage_of c.args.number c.index.result.now (found_sound c.args.number items c.in-Some.at c.index.result.now c.self.invariant there) (finds_hit c.args.number items c.in-Some.at c.index.result.now there) in
    sym (ap (option_map (λ (f : Flight). f.op)) (ap (λ (v : FlightsState). flight_of c.args.number v.now) (sym c.self.view_is) ∙ flight_is c.args.number items c.in-Some.at c.index.result.now st.0 there st.1))
