-- A mend of a client that is left alone, as it is planned: it flies, and flies alone.
use Rattle.std.specs.Prelude.{Contains}
use Rattle.std.proofs.Common.{◌≡◌, ◌≢◌, ◌++◌, ℕ, zero, suc, Bool, List, [], ◌∷◌, length, map, Option, None, Some, refl, sym, ap, subst, ◌∙◌, inl, inr, arith}
use Rattle.std.specs.FinMap.{get}
use Rattle.std.proofs.lemmas.Option.{none-some, same_Some}
use Rattle.nuc_base.specs.Trees.{Nodes, StandsAt}
use Rattle.nuc_base.specs.declared.change.Change.{Change}
use Rattle.nuc_base.specs.declared.change.Change.TheVariants.{Keep, Put, Cut}
use Rattle.nuc_base.specs.declared.node.Node.{Node}
use Rattle.nuc_base.specs.declared.node.Place.{Place}
use Rattle.nuc_base.proofs.Places.{one_holder}
use Rattle.nuc_class.specs.Effects.{effect_of, is_shown}
use Rattle.nuc_class.specs.Wishes.{AllEqual}
use Rattle.nuc_class.specs.declared.op.Effect.TheVariants as effect
use Rattle.nuc_class.specs.declared.op.Op.{Op}
use Rattle.nuc_class.specs.declared.op.Verb.{Verb}
use Rattle.nuc_class.specs.declared.op.Verb.TheVariants as verb
use Rattle.nuc_class.specs.declared.wishes.Wish.TheVariants as wish
use Rattle.nuc_class.proofs.Rows.{one_wish}
use Rattle.nuc_conflict.specs.Facts.{EvictionFacts}
use Rattle.nuc_conflict.specs.Mends.{LeavesFor}
use Rattle.nuc_conflict.proofs.Agreeing.{mend_agrees}
use Rattle.nuc_edits.specs.Edits.{same_hash}
use Rattle.nuc_flights.specs.Flights.{Flight, as_planned, planned}
use Rattle.nuc_journal.specs.declared.entry.Entry.{Entry}
use Rattle.nuc_measure.specs.Potential.{IsCarried}
use Rattle.nuc_plan.specs.declared.plans.Plan.TheVariants as plan
use Rattle.nuc_step.specs.Client.{ClientState}
use Rattle.nuc_step.specs.Planning.{CanPlan, IsPlanOf, MendFlies, Planning}
use Rattle.nuc_step.specs.Steps.{after_fly, base_of, is_split, numbered}
use Rattle.nuc_step.specs.declared.answers.Planned.TheVariants as answer
use Rattle.nuc_step.proofs.Notes.{Facts, mend_facts}
use Rattle.nuc_step.proofs.ReadyPlans.{mend_is_ready}
use Rattle.nuc_converge.specs.Counts.{at_once}
use Rattle.nuc_converge.proofs.Grounded.{NoneAhead, grounded_carries, none_ahead}
use Rattle.nuc_converge.proofs.InFlight.{IsAlone, IsMend, IsPlaced, flies}
use Rattle.nuc_converge.proofs.InFlight.IsAlone.{mend}
use Rattle.nuc_converge.proofs.InFlight.IsPlaced.{at_server, in_folder}
use Rattle.nuc_converge.proofs.Launched.{flown, launched_carries, on_disk}
use Rattle.nuc_converge.proofs.Parts.{HasPlanned}

-- who leaves a place for another isn't cut
never_cut : (p e : Place) (o : Option Node) (c : Change) → LeavesFor p e o c → c ≢ Cut
never_cut p e None Cut leaves is = leaves
never_cut p e (Some n) Cut leaves is = leaves
never_cut p e o Keep leaves is = cc
never_cut p e o (Put n) leaves is = cc

-- who stands at a place in one of two equal values stands there in the other
stands_too : (m k : Nodes) (x : ℕ) (p : Place) → get k x ≡ get m x → StandsAt m x p → StandsAt k x p
stands_too m k x p same (n, at, near) = (n, same ∙ at, near)

module _ (p : Planning) (op : Op) (can : CanPlan p.client p.next_id) where
  abbrev alike : ℕ → ℕ → Bool
  alike = same_hash p.recorded.edits

  abbrev r : Nodes
  r = p.client.remote.tree

  abbrev l : Nodes
  l = p.client.local.tree

  abbrev s : Nodes
  s = p.client.synced

  abbrev Equal : Type 0
  Equal = AllEqual (get r op.id.0) (get l op.id.0) (get s op.id.0)

  -- ITS IDENTITY DIFFERS. Another holds the place of one that is evicted, in a tree in which it would stand there too
  evicted_differs : EvictionFacts alike r l s op → Equal → ⊥
  evicted_differs facts (first, second) =
      let in_r : StandsAt r op.id.0 facts.place = elim facts.moved [
        | inl at ↦ at
        | inr other ↦ elim other [
          | inl at ↦ stands_too l r op.id.0 facts.place first at
          | inr at ↦ stands_too s r op.id.0 facts.place (first ∙ second) at
        ]
      ] in
      elim facts.kept [
        | inl (holds, kept) ↦ facts.other (one_holder r facts.holder op.id.0 facts.place can.fit.remote holds in_r)
        | inr (holds, kept) ↦
            facts.other (one_holder l facts.holder op.id.0 facts.place can.fit.local holds (stands_too r l op.id.0 facts.place (sym first) in_r))
      ]

  mended_differs : (v : Verb) → Facts p op can v → v ≢ verb.Adopt → Equal → ⊥
  mended_differs verb.Evict facts other equal = evicted_differs facts equal
  mended_differs verb.Split facts other equal =
      let clash : wish.Split ≡ wish.Nothing = one_wish alike r l s op.id.0 wish.Split wish.Nothing facts.wished equal in cc
  mended_differs verb.Adopt facts other equal = absurd (other refl)
  mended_differs verb.Revive facts other equal = none-some facts.node (sym (equal.0 ∙ facts.gone) ∙ facts.there)
  mended_differs verb.Unmove facts other equal =
      let one : facts.node ≡ facts.own = same_Some facts.node facts.own (sym facts.there ∙ equal.0 ∙ facts.own_there) in
      facts.apart (ap (λ (n : Node). n.place.parent.0) (sym one))
  mended_differs verb.Down facts other equal = facts
  mended_differs verb.Up facts other equal = facts
  mended_differs verb.CutDown facts other equal = facts
  mended_differs verb.CutUp facts other equal = facts
  mended_differs verb.Forget facts other equal = facts

  -- WHERE IT IS CARRIED OUT
  module _ (outside : op.effect ≢ effect.Nothing) (number base : ℕ) where
    abbrev Placed : Type 0
    Placed = IsPlaced (record op { number = number; base = base }) planned

    evicted_placed : (c : Change) → op.remote ≡ c → op.verb ≡ verb.Evict → EvictionFacts alike r l s op → Placed
    evicted_placed Keep kept named facts =
        let is : op.effect ≡ effect_of alike (get l op.id.0) op.local Keep =
        ap (λ (o : Op). o.effect) facts.carried.is ∙ ap (λ c. effect_of alike (get l op.id.0) op.local c) kept in
        in_folder (is ∙ on_disk (is_shown alike (get l op.id.0) op.local) (λ nothing. outside (is ∙ nothing))) kept tt
    evicted_placed (Put n) puts named facts =
        let is : op.effect ≡ effect.Commit = ap (λ (o : Op). o.effect) facts.carried.is ∙ ap (λ c. effect_of alike (get l op.id.0) op.local c) puts in
        let stays : op.local ≡ Keep = elim facts.kept [
          | inl (holds, kept) ↦ absurd (let clash : Keep ≡ Put n = sym kept ∙ puts in cc)
          | inr (holds, kept) ↦ kept
        ] in
        at_server n is puts stays (ap is_split named) tt
    evicted_placed Cut cuts named facts = absurd (never_cut _ _ (get r op.id.0) op.remote facts.carried.remote cuts)

    mended_placed : (v : Verb) → op.verb ≡ v → Facts p op can v → Placed
    mended_placed verb.Evict named facts = evicted_placed op.remote refl named facts
    mended_placed verb.Split named facts = in_folder (ap (λ (o : Op). o.effect) facts.carried.is) (ap (λ (o : Op). o.remote) facts.carried.is) tt
    mended_placed verb.Revive named facts = in_folder (ap (λ (o : Op). o.effect) facts.carried.is) (ap (λ (o : Op). o.remote) facts.carried.is) tt
    mended_placed verb.Unmove named facts = in_folder (ap (λ (o : Op). o.effect) facts.carried.is) (ap (λ (o : Op). o.remote) facts.carried.is) tt
    mended_placed verb.Adopt named facts = absurd (outside (ap (λ (o : Op). o.effect) facts.carried.is))
    mended_placed verb.Down named facts = absurd facts
    mended_placed verb.Up named facts = absurd facts
    mended_placed verb.CutDown named facts = absurd facts
    mended_placed verb.CutUp named facts = absurd facts
    mended_placed verb.Forget named facts = absurd facts

  -- an adoption is carried out nowhere
  no_adoption : op.effect ≢ effect.Nothing → (v : Verb) → Facts p op can v → v ≢ verb.Adopt
  no_adoption outside verb.Adopt facts is = outside (ap (λ (o : Op). o.effect) facts.carried.is)
  no_adoption outside verb.Evict facts is = cc
  no_adoption outside verb.Split facts is = cc
  no_adoption outside verb.Revive facts is = cc
  no_adoption outside verb.Unmove facts is = cc
  no_adoption outside verb.Down facts is = cc
  no_adoption outside verb.Up facts is = cc
  no_adoption outside verb.CutDown facts is = cc
  no_adoption outside verb.CutUp facts is = cc
  no_adoption outside verb.Forget facts is = cc

  -- IT FLIES ALONE
  module _ (of_plan : IsPlanOf p (plan.Mend op)) (outside : op.effect ≢ effect.Nothing) (entries : List Entry)
      (none : NoneAhead alike entries p.client.remote.cursor) where
    abbrev after : ClientState
    after = after_fly (op ∷ []) p.client

    abbrev it : Flight
    it = flown p.client.next_op (base_of op.effect p.client.remote op.id.0) op

    flights_are : after.flights ≡ it ∷ []
    flights_are = ap (λ gs. gs ++ map as_planned (numbered p.client.next_op p.client.remote (op ∷ []))) of_plan.0

    facts : Facts p op can op.verb
    facts = mend_facts p op can of_plan

    is_mend : IsMend alike r l s p.client.remote.cursor entries it
    is_mend = record {
      next = p.next_id;
      op = op;
      shown = refl;
      facts = facts;
      agreed = mend_agrees alike r l s p.next_id op can.fit of_plan.1.stuck facts of_plan.1.mend;
      placed = mended_placed outside p.client.next_op (base_of op.effect p.client.remote op.id.0) op.verb refl facts;
      waits = λ never. never;
      news = λ e ahead. absurd (none e ahead);
    }

    differs_at : (f : Flight) → Contains (it ∷ []) f → ¬ (AllEqual (get r f.op.id.0) (get l f.op.id.0) (get s f.op.id.0))
    differs_at f (zero, within, is) equal =
        mended_differs op.verb facts (no_adoption outside op.verb facts)
        (subst (λ (g : Flight). AllEqual (get r g.op.id.0) (get l g.op.id.0) (get s g.op.id.0)) (sym is) equal)
    differs_at f (suc k, within, is) equal = omega (arith, within)

    mend_alone : (shown : Op) → at_once shown.effect ≡ 0 → HasPlanned alike entries p.client after (answer.Mend shown)
    mend_alone shown later = record {
      alone = mend it flights_are is_mend;
      ready = mend_is_ready alike p.client p.next_id op can of_plan.0 outside of_plan.1;
      pays = λ a b is_a is_b.
          let le = launched_carries alike r l s (it ∷ []) differs_at a b (grounded_carries alike p.client a of_plan.0 is_a)
          (subst (λ gs. IsCarried alike (flies gs) r l s b) flights_are is_b) in
          omega (arith, le, later);
      counts =
          let before : length p.client.flights ≡ 0 = ap length of_plan.0 in
          let now : length after.flights ≡ 1 = ap length flights_are in
          omega (arith, before, now, later);
    }

pub flying_alone : (p q : Planning) (op shown : Op) (entries : List Entry) → CanPlan p.client p.next_id → IsAlone (same_hash p.recorded.edits) entries p.client
    → IsPlanOf p (plan.Mend op) → op.effect ≢ effect.Nothing → at_once shown.effect ≡ 0 → MendFlies op p q
    → HasPlanned (same_hash p.recorded.edits) entries p.client q.client (answer.Mend shown)
flying_alone p q op shown entries can is of_plan outside later goes =
    let same = same_hash p.recorded.edits in
    subst (λ (d : ClientState). HasPlanned same entries p.client d (answer.Mend shown)) (sym goes.client)
    (mend_alone p op can of_plan outside entries (none_ahead same entries p.client of_plan.0 is) shown later)
