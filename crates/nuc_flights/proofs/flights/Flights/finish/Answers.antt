use Rattle.std.proofs.Common.{◌≡◌, ◌≢◌, ◌<◌, sym, ◌∙◌, ap, subst, refl}
use Rattle.nuc_flights.specs.Flights.{FlightsState, IsTaken, StandsAt, taken, without}
use Rattle.nuc_flights.specs.Slots.{Finds, IsSound, flight_was}
use Rattle.nuc_flights.specs.declared.slot.Level.TheVariants as level
use Rattle.nuc_flights.specs.declared.slot.Slot.{Slot}
use Rattle.nuc_flights.proofs.Flying.{absent, finds_at, finds_within, finish_sound, found_sound, set_sound, stands, taken_came, taken_level, taken_stage, were_is, without_is}
use Rattle.nuc_flights.proofs.flights.Flights.finish.Goals as goal

pub index_mut-requires : goal.index_mut-requires
index_mut-requires c = subst (λ n. c.in-Some.at < n) c.deref.ensures.len (finds_within c.args.number c.deref.result.now c.in-Some.at c.in-Some.ensures.0 c.in-Some.ensures.1)

pub returns-in_default-clause-finished : goal.returns-in_default-clause-finished
returns-in_default-clause-finished c = (
  subst (λ fs. ¬ (StandsAt c.args.number IsTaken fs)) (ap (λ (s : FlightsState). s.now) c.self.view_is)
      (absent c.args.number c.self.inside.slots.items IsTaken level.Taken c.self.invariant taken_level
      (subst (λ xs. (i : _) (s : Slot) → Finds c.args.number xs i s → s.at ≢ level.Taken) c.deref.ensures.value c.in_default.ensures)),
  refl,
)

pub returns-clause-finished : goal.returns-clause-finished
returns-clause-finished c =
    let s = c.in-Some.ensures.0 in
    let items = c.self.inside.slots.items in
    let there : Finds c.args.number items c.in-Some.at s = subst (λ xs. Finds c.args.number xs c.in-Some.at c.in-Some.ensures.0) c.deref.ensures.value c.in-Some.ensures.1 in
    let same : c.index_mut.result.now ≡ s = c.index_mut.ensures.value ∙ finds_at c.args.number items c.in-Some.at s c.index_mut.result.now there in
    let now_is = ap (λ (s : FlightsState). s.now) c.self.view_is in
    let x = taken_came s (found_sound c.args.number items c.in-Some.at s c.self.invariant there) c.in-Some.ensures.2 in
    let stage = taken_stage s x.0 c.in-Some.ensures.2 x.1 in (
      subst (StandsAt c.args.number IsTaken) now_is (stands c.args.number items c.in-Some.at s (taken x.0) IsTaken there stage tt),
      without_is c.args.number items c.in-Some.at s _ (taken x.0) there stage refl ∙ ap (without c.args.number) now_is,
    )

pub returns-clause-settled : goal.returns-clause-settled
returns-clause-settled c =
    let s = c.in-Some.ensures.0 in
    let items = c.self.inside.slots.items in
    let there : Finds c.args.number items c.in-Some.at s = subst (λ xs. Finds c.args.number xs c.in-Some.at c.in-Some.ensures.0) c.deref.ensures.value c.in-Some.ensures.1 in
    let same : c.index_mut.result.now ≡ s = c.index_mut.ensures.value ∙ finds_at c.args.number items c.in-Some.at s c.index_mut.result.now there in
    were_is c.args.number items c.in-Some.at s _ there (ap (λ (x : Slot). flight_was (record x { at = level.Away })) same) ∙ ap (λ (s : FlightsState). s.settled) c.self.view_is

pub invariant_of-self : goal.invariant_of-self
invariant_of-self c =
    let s = c.in-Some.ensures.0 in
    let items = c.self.inside.slots.items in
    let there : Finds c.args.number items c.in-Some.at s = subst (λ xs. Finds c.args.number xs c.in-Some.at c.in-Some.ensures.0) c.deref.ensures.value c.in-Some.ensures.1 in
    let same : c.index_mut.result.now ≡ s = c.index_mut.ensures.value ∙ finds_at c.args.number items c.in-Some.at s c.index_mut.result.now there in
    let sound = found_sound c.args.number items c.in-Some.at s c.self.invariant there in
    set_sound items c.in-Some.at _ (subst (λ (x : Slot). IsSound (record x { at = level.Away })) (sym same) (finish_sound s sound)) c.self.invariant
