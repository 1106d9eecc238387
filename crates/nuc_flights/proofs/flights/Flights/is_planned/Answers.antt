use Rattle.std.proofs.Common.{◌≡◌, ◌≢◌, sym, ap, subst}
use Rattle.nuc_flights.specs.Flights.{FlightsState, IsPlanned, StandsAt, planned}
use Rattle.nuc_flights.specs.Slots.{Finds}
use Rattle.nuc_flights.specs.declared.slot.Level.TheVariants as level
use Rattle.nuc_flights.specs.declared.slot.Slot.{Slot}
use Rattle.nuc_flights.proofs.Flying.{absent, stands, planned_level, planned_stage}
use Rattle.nuc_flights.proofs.flights.Flights.is_planned.Goals as goal

pub returns-in-None : goal.returns-in-None
returns-in-None c =
    subst (λ fs. ¬ (StandsAt c.args.number IsPlanned fs)) (ap (λ (s : FlightsState). s.now) c.self.view_is)
    (absent c.args.number c.self.inside.slots.items IsPlanned level.Planned c.self.invariant planned_level
    (subst (λ xs. (i : _) (s : Slot) → Finds c.args.number xs i s → s.at ≢ level.Planned) c.deref.ensures.value c.in-None.ensures))

pub returns-in-Some : goal.returns-in-Some
returns-in-Some c =
    let s = c.in-Some.ensures.0 in
    let items = c.self.inside.slots.items in
    let there : Finds c.args.number items c.in-Some.field-0 s = subst (λ xs. Finds c.args.number xs c.in-Some.field-0 c.in-Some.ensures.0) c.deref.ensures.value c.in-Some.ensures.1 in
    subst (StandsAt c.args.number IsPlanned) (ap (λ (s : FlightsState). s.now) c.self.view_is)
    (stands c.args.number items c.in-Some.field-0 s planned IsPlanned there (planned_stage s c.in-Some.ensures.2) tt)
