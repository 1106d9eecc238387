use Rattle.std.proofs.Common.{◌≡◌, ◌≢◌, ◌<◌, sym, ◌∙◌, ap, subst, refl}
use Rattle.nuc_flights.specs.Flights.{FlightsState, IsPlanned, StandsAt, planned, staged, started}
use Rattle.nuc_flights.specs.Slots.{Finds, IsSound, flight_was}
use Rattle.nuc_flights.specs.declared.slot.Level.TheVariants as level
use Rattle.nuc_flights.specs.declared.slot.Slot.{Slot}
use Rattle.nuc_flights.proofs.Flying.{absent, finds_at, finds_within, found_sound, planned_level, planned_stage, set_sound, staged_is, stands, start_sound, were_is}
use Rattle.nuc_flights.proofs.flights.Flights.start.Goals as goal

pub index_mut-requires : goal.index_mut-requires
index_mut-requires c = subst (λ n. c.in-Some.at < n) c.deref.ensures.len (finds_within c.args.number c.deref.result.now c.in-Some.at c.in-Some.ensures.0 c.in-Some.ensures.1)

pub returns-in_default-clause-started : goal.returns-in_default-clause-started
returns-in_default-clause-started c = (
  subst (λ fs. ¬ (StandsAt c.args.number IsPlanned fs)) (ap (λ (s : FlightsState). s.now) c.self.view_is)
      (absent c.args.number c.self.inside.slots.items IsPlanned level.Planned c.self.invariant planned_level
      (subst (λ xs. (i : _) (s : Slot) → Finds c.args.number xs i s → s.at ≢ level.Planned) c.deref.ensures.value c.in_default.ensures)),
  refl,
)

pub returns-clause-started : goal.returns-clause-started
returns-clause-started c =
    let s = c.in-Some.ensures.0 in
    let items = c.self.inside.slots.items in
    let there : Finds c.args.number items c.in-Some.at s = subst (λ xs. Finds c.args.number xs c.in-Some.at c.in-Some.ensures.0) c.deref.ensures.value c.in-Some.ensures.1 in
    let same : c.index_mut.result.now ≡ s = c.index_mut.ensures.value ∙ finds_at c.args.number items c.in-Some.at s c.index_mut.result.now there in
    let now_is = ap (λ (s : FlightsState). s.now) c.self.view_is in
    let stage = planned_stage s c.in-Some.ensures.2 in (
      subst (StandsAt c.args.number IsPlanned) now_is (stands c.args.number items c.in-Some.at s planned IsPlanned there stage tt),
      staged_is c.args.number items c.in-Some.at s _ planned started there stage (ap (λ (x : Slot). x.op) same) refl ∙ ap (staged c.args.number started) now_is,
    )

pub returns-clause-settled : goal.returns-clause-settled
returns-clause-settled c =
    let s = c.in-Some.ensures.0 in
    let items = c.self.inside.slots.items in
    let there : Finds c.args.number items c.in-Some.at s = subst (λ xs. Finds c.args.number xs c.in-Some.at c.in-Some.ensures.0) c.deref.ensures.value c.in-Some.ensures.1 in
    let same : c.index_mut.result.now ≡ s = c.index_mut.ensures.value ∙ finds_at c.args.number items c.in-Some.at s c.index_mut.result.now there in
    were_is c.args.number items c.in-Some.at s _ there (ap (λ (x : Slot). flight_was (record x { at = level.Started })) same) ∙ ap (λ (s : FlightsState). s.settled) c.self.view_is

pub invariant_of-self : goal.invariant_of-self
invariant_of-self c =
    let s = c.in-Some.ensures.0 in
    let items = c.self.inside.slots.items in
    let there : Finds c.args.number items c.in-Some.at s = subst (λ xs. Finds c.args.number xs c.in-Some.at c.in-Some.ensures.0) c.deref.ensures.value c.in-Some.ensures.1 in
    let same : c.index_mut.result.now ≡ s = c.index_mut.ensures.value ∙ finds_at c.args.number items c.in-Some.at s c.index_mut.result.now there in
    let sound = found_sound c.args.number items c.in-Some.at s c.self.invariant there in
    set_sound items c.in-Some.at _ (subst (λ (x : Slot). IsSound (record x { at = level.Started })) (sym same) (start_sound s sound c.in-Some.ensures.2)) c.self.invariant
