use Rattle.std.proofs.Common.{◌≡◌, ◌≢◌, sym, ap, subst}
use Rattle.nuc_flights.specs.Flights.{FlightsState, IsStarted, StandsAt, started}
use Rattle.nuc_flights.specs.Slots.{Finds}
use Rattle.nuc_flights.specs.declared.slot.Level.TheVariants as level
use Rattle.nuc_flights.specs.declared.slot.Slot.{Slot}
use Rattle.nuc_flights.proofs.Flying.{absent, stands, started_level, started_stage}
use Rattle.nuc_flights.proofs.flights.Flights.is_started.Goals as goal

pub returns-in-None : goal.returns-in-None
returns-in-None c =
    subst (λ fs. ¬ (StandsAt c.args.number IsStarted fs)) (ap (λ (s : FlightsState). s.now) c.self.view_is)
    (absent c.args.number c.self.inside.slots.items IsStarted level.Started c.self.invariant started_level
    (subst (λ xs. (i : _) (s : Slot) → Finds c.args.number xs i s → s.at ≢ level.Started) c.deref.ensures.value c.in-None.ensures))

pub returns-in-Some : goal.returns-in-Some
returns-in-Some c =
    let s = c.in-Some.ensures.0 in
    let items = c.self.inside.slots.items in
    let there : Finds c.args.number items c.in-Some.field-0 s = subst (λ xs. Finds c.args.number xs c.in-Some.field-0 c.in-Some.ensures.0) c.deref.ensures.value c.in-Some.ensures.1 in
    subst (StandsAt c.args.number IsStarted) (ap (λ (s : FlightsState). s.now) c.self.view_is)
    (stands c.args.number items c.in-Some.field-0 s started IsStarted there (started_stage s c.in-Some.ensures.2) tt)
