use Rattle.std.proofs.Common.{◌≡◌, ◌≢◌, ◌<◌, Some, sym, ◌∙◌, ap, subst, refl}
use Rattle.nuc_flights.specs.Flights.{FlightsState, IsStarted, StandsAt, staged, started, taken}
use Rattle.nuc_flights.specs.Slots.{Finds, IsSound, flight_was, stage_at}
use Rattle.nuc_flights.specs.declared.slot.Level.TheVariants as level
use Rattle.nuc_flights.specs.declared.slot.Slot.{Slot}
use Rattle.nuc_flights.proofs.Flying.{absent, finds_at, finds_within, found_sound, land_sound, land_was, set_sound, staged_is, stands, started_level, started_stage, were_is}
use Rattle.nuc_flights.proofs.flights.Flights.take.Goals as goal

pub index_mut-requires : goal.index_mut-requires
index_mut-requires c = subst (λ n. c.in-Some.at < n) c.deref.ensures.len (finds_within c.args.number c.deref.result.now c.in-Some.at c.in-Some.ensures.0 c.in-Some.ensures.1)

pub returns-in_default-clause-taken : goal.returns-in_default-clause-taken
returns-in_default-clause-taken c = (
  subst (λ fs. ¬ (StandsAt c.args.number IsStarted fs)) (ap (λ (s : FlightsState). s.now) c.self.view_is)
      (absent c.args.number c.self.inside.slots.items IsStarted level.Started c.self.invariant started_level
      (subst (λ xs. (i : _) (s : Slot) → Finds c.args.number xs i s → s.at ≢ level.Started) c.deref.ensures.value c.in_default.ensures)),
  refl,
)

pub returns-clause-taken : goal.returns-clause-taken
returns-clause-taken c =
    let s = c.in-Some.ensures.0 in
    let items = c.self.inside.slots.items in
    let there : Finds c.args.number items c.in-Some.at s = subst (λ xs. Finds c.args.number xs c.in-Some.at c.in-Some.ensures.0) c.deref.ensures.value c.in-Some.ensures.1 in
    let same : c.index_mut.result.now ≡ s = c.index_mut.ensures.value ∙ finds_at c.args.number items c.in-Some.at s c.index_mut.result.now there in
    let now_is = ap (λ (s : FlightsState). s.now) c.self.view_is in
    let stage = started_stage s c.in-Some.ensures.2 in (
      subst (StandsAt c.args.number IsStarted) now_is (stands c.args.number items c.in-Some.at s started IsStarted there stage tt),
      staged_is c.args.number items c.in-Some.at s _ started (taken c.args.came) there stage (ap (λ (x : Slot). x.op) (c.land.ensures ∙ ap (λ (x : Slot). record x { at = level.Taken; came = Some c.args.came }) same)) (ap (λ (x : Slot). stage_at x.at x.came) c.land.ensures) ∙ ap (staged c.args.number (taken c.args.came)) now_is,
    )

pub returns-clause-settled : goal.returns-clause-settled
returns-clause-settled c =
    let s = c.in-Some.ensures.0 in
    let items = c.self.inside.slots.items in
    let there : Finds c.args.number items c.in-Some.at s = subst (λ xs. Finds c.args.number xs c.in-Some.at c.in-Some.ensures.0) c.deref.ensures.value c.in-Some.ensures.1 in
    let same : c.index_mut.result.now ≡ s = c.index_mut.ensures.value ∙ finds_at c.args.number items c.in-Some.at s c.index_mut.result.now there in
    were_is c.args.number items c.in-Some.at s _ there (ap flight_was (c.land.ensures ∙ ap (λ (x : Slot). record x { at = level.Taken; came = Some c.args.came }) same) ∙ land_was s c.args.came (found_sound c.args.number items c.in-Some.at s c.self.invariant there) c.in-Some.ensures.2) ∙ ap (λ (s : FlightsState). s.settled) c.self.view_is

pub invariant_of-self : goal.invariant_of-self
invariant_of-self c =
    let s = c.in-Some.ensures.0 in
    let items = c.self.inside.slots.items in
    let there : Finds c.args.number items c.in-Some.at s = subst (λ xs. Finds c.args.number xs c.in-Some.at c.in-Some.ensures.0) c.deref.ensures.value c.in-Some.ensures.1 in
    let same : c.index_mut.result.now ≡ s = c.index_mut.ensures.value ∙ finds_at c.args.number items c.in-Some.at s c.index_mut.result.now there in
    let sound = found_sound c.args.number items c.in-Some.at s c.self.invariant there in
    set_sound items c.in-Some.at _ (subst IsSound (sym (c.land.ensures ∙ ap (λ (x : Slot). record x { at = level.Taken; came = Some c.args.came }) same)) (land_sound s c.args.came sound c.in-Some.ensures.2)) c.self.invariant
