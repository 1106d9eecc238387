use Rattle.std.proofs.Common.{◌≡◌, sym, ◌∙◌, ap, subst, rules}
use Rattle.nuc_flights.specs.Slots.{Finds}
use Rattle.nuc_flights.specs.declared.slot.Slot.{Slot}
use Rattle.nuc_flights.proofs.Flying.{finds_one, found, none_found}
use Rattle.nuc_flights.proofs.flights.position_at.Goals as goal

pub returns-in-None : goal.returns-in-None
returns-in-None c = λ i s finds. absurd (none_found _ _ i s (sym c.in-None.ensures) finds)

pub returns-then-eq : goal.returns-then-eq
returns-then-eq c = (
  c.index-slots-at.result,
  subst (Finds c.args.number c.args.slots.now c.in-Some.at) (sym c.index-slots-at.is) (found c.args.number c.args.slots.now c.in-Some.at _ (sym c.in-Some.ensures)),
  (search rules),
)

pub returns-else-eq : goal.returns-else-eq
returns-else-eq c = λ i s finds same.
    let mine : Finds c.args.number c.args.slots.now c.in-Some.at c.index-slots-at.result =
    subst (Finds c.args.number c.args.slots.now c.in-Some.at) (sym c.index-slots-at.is) (found c.args.number c.args.slots.now c.in-Some.at _ (sym c.in-Some.ensures)) in
    let one = finds_one c.args.number c.args.slots.now i c.in-Some.at s c.index-slots-at.result finds mine in
    let level : c.index-slots-at.result.at ≡ c.args.level = ap (λ (s : Slot). s.at) (sym one) ∙ same in
    search rules
