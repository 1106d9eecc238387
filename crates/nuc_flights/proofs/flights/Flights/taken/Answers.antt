use Rattle.std.proofs.Common.{◌≡◌, ◌≢◌, ◌<◌, sym, ◌∙◌, ap, subst}
use Rattle.nuc_flights.specs.Flights.{FlightsState, IsTaken, StandsAt, flight_of, taken_of}
use Rattle.nuc_flights.specs.Slots.{Finds}
use Rattle.nuc_flights.specs.declared.slot.Level.TheVariants as level
use Rattle.nuc_flights.specs.declared.slot.Slot.{Slot}
use Rattle.nuc_flights.proofs.Flying.{absent, finds_at, finds_within, flight_is, found_sound, none_taken, taken_came, taken_level, taken_stage}
use Rattle.nuc_flights.proofs.flights.Flights.taken.Goals as goal

pub index-requires : goal.index-requires
index-requires c = subst (λ n. c.in-Some.at < n) c.deref.ensures.len (finds_within c.args.number c.deref.result.now c.in-Some.at c.in-Some.ensures.0 c.in-Some.ensures.1)

pub returns-in-None : goal.returns-in-None
returns-in-None c =
    sym (none_taken c.args.number c.args.self.now.now
    (subst (λ fs. ¬ (StandsAt c.args.number IsTaken fs)) (ap (λ (s : FlightsState). s.now) c.self.view_is)
    (absent c.args.number c.self.inside.slots.items IsTaken level.Taken c.self.invariant taken_level
    (subst (λ xs. (i : _) (s : Slot) → Finds c.args.number xs i s → s.at ≢ level.Taken) c.deref.ensures.value c.in-None.ensures))))

pub returns-in-Some : goal.returns-in-Some
returns-in-Some c =
    let s = c.in-Some.ensures.0 in
    let items = c.self.inside.slots.items in
    let there : Finds c.args.number items c.in-Some.at s = subst (λ xs. Finds c.args.number xs c.in-Some.at c.in-Some.ensures.0) c.deref.ensures.value c.in-Some.ensures.1 in
    let same : c.index.result.now ≡ s = c.index.ensures ∙ finds_at c.args.number items c.in-Some.at s c.index.result.now there in
    let x = taken_came s (found_sound c.args.number items c.in-Some.at s c.self.invariant there) c.in-Some.ensures.2 in
    ap (λ (s : Slot). s.came) same ∙ x.1
    ∙ sym (ap taken_of (ap (λ (v : FlightsState). flight_of c.args.number v.now) (sym c.self.view_is) ∙ flight_is c.args.number items c.in-Some.at s _ there (taken_stage s x.0 c.in-Some.ensures.2 x.1)))
