use Rattle.std.specs.Prelude.{All, OnOk}
use Rattle.std.specs.Result.{is_ok}
use Rattle.std.proofs.Common.{◌≡◌, cond, Ok, Err, ◌++◌, map, sym, ◌∙◌, ap, subst}
use Rattle.nuc_flights.specs.Flights.{FlightsState, as_planned}
use Rattle.nuc_flights.specs.Slots.{IsSound, flights_now, flights_were}
use Rattle.nuc_flights.proofs.Flying.{extended, extended_now, extended_sound, extended_were}
use Rattle.nuc_flights.proofs.flights.Flights.fly.Goals as goal

pub returns-clause-ok : goal.returns-clause-ok
returns-clause-ok c =
    let xs = c.self.inside.slots.items in
    let items : c.append.new.self.items ≡ extended (is_ok c.append.result) xs c.args.ops.items =
    c.append.ensures.items ∙ ap (λ ys. cond (is_ok c.append.result) (xs ++ ys) xs) c.in_ok-slots.ensures in
    elim c.append.result as (λ r. c.append.new.self.items ≡ extended (is_ok r) xs c.args.ops.items
    → OnOk r (flights_now c.append.new.self.items ≡ c.args.self.now.now ++ map as_planned c.args.ops.items)) [
      | Ok _ ↦ λ items.
          ap flights_now items ∙ extended_now xs c.args.ops.items ∙ ap (λ (s : FlightsState). s.now ++ map as_planned c.args.ops.items) c.self.view_is
      | Err _ ↦ λ _. tt
    ] items

pub returns-clause-settled : goal.returns-clause-settled
returns-clause-settled c =
    let enough = is_ok c.append.result in
    let xs = c.self.inside.slots.items in
    let items : c.append.new.self.items ≡ extended enough xs c.args.ops.items =
    c.append.ensures.items ∙ ap (λ ys. cond enough (xs ++ ys) xs) c.in_ok-slots.ensures in
    ap flights_were items ∙ extended_were enough xs c.args.ops.items ∙ ap (λ (s : FlightsState). s.settled) c.self.view_is

pub invariant_of-self : goal.invariant_of-self
invariant_of-self c =
    let enough = is_ok c.append.result in
    let xs = c.self.inside.slots.items in
    let items : c.append.new.self.items ≡ extended enough xs c.args.ops.items =
    c.append.ensures.items ∙ ap (λ ys. cond enough (xs ++ ys) xs) c.in_ok-slots.ensures in
    subst (All IsSound) (sym items) (extended_sound enough xs c.args.ops.items c.self.invariant)
