-- A plan keeps to the kinds of the keys: a split's copy is of the kind of what it is a copy of, and so is one that comes in
-- place of another.
use Rattle.std.specs.Prelude.{All}
use Rattle.std.proofs.Common.{◌≡◌, ◌≢◌, ◌+◌, ℕ, Bool, true, false, List, [], ◌∷◌, map, Some, refl, sym, ◌∙◌, ap, subst}
use Rattle.std.specs.FinMap.{get}
use Rattle.nuc_base.specs.Trees.{Nodes}
use Rattle.nuc_base.specs.declared.change.Change.TheVariants.{Put}
use Rattle.nuc_base.specs.declared.node.Node.{Node}
use Rattle.nuc_class.specs.declared.op.Effect.{Effect}
use Rattle.nuc_class.specs.declared.op.Effect.TheVariants as effect
use Rattle.nuc_class.specs.declared.op.Op.{Op}
use Rattle.nuc_class.specs.declared.op.Verb.{Verb}
use Rattle.nuc_class.specs.declared.op.Verb.TheVariants as verb
use Rattle.nuc_edits.specs.Edits.{same_hash}
use Rattle.nuc_flights.specs.Flights.{as_planned}
use Rattle.nuc_folder.specs.declared.outcome.Outcome.TheVariants as outcome
use Rattle.nuc_plan.specs.Laws.{IsDueOutside}
use Rattle.nuc_plan.proofs.Cases.{each_is_due}
use Rattle.nuc_plan.proofs.DueFacts.{parts}
use Rattle.nuc_plan.specs.declared.plans.Plan.TheVariants as plan
use Rattle.nuc_replica.specs.Remote.{RemoteState}
use Rattle.nuc_step.specs.Client.{ClientState}
use Rattle.nuc_step.specs.Planning.{CanNote, CanPlan, IsAdopted, IsMendedAtOnce, IsNoted, IsPlanOf, MendGoes, PlanAnswers, Planning}
use Rattle.nuc_step.specs.Sound.{IsClient}
use Rattle.nuc_step.specs.Steps.{after_fly, is_split, numbered}
use Rattle.nuc_step.specs.declared.answers.Planned.{Planned}
use Rattle.nuc_step.specs.declared.answers.Planned.TheVariants as answer
use Rattle.nuc_step.proofs.Notes.{Facts, book_can, comes, mend_can, mend_facts}
use Rattle.nuc_world.proofs.Items.{all_append, all_first, all_front, all_map, all_none, all_rest}
use Rattle.nuc_fit.proofs.KindsForm.{CopiesKind, IsCopy, IsFlightOf, Kinds}
use Rattle.nuc_fit.proofs.KindsLocal.{adopted_named, landed_named}
use Rattle.nuc_fit.proofs.KindsMember.{OfClient}

-- WHAT IS NO SPLIT copies nothing
whole_copy : (op : Op) → is_split op.verb ≡ false → IsCopy op
whole_copy op whole = subst (λ b. CopiesKind b op.old_local op.local) (sym whole) tt

by_verb : (op : Op) (v : Verb) → op.verb ≡ v → is_split v ≡ false → IsCopy op
by_verb op v is whole = whole_copy op (ap is_split is ∙ whole)

verb_copy : (op : Op) (v : Verb) → op.verb ≡ v → v ≢ verb.Split → IsCopy op
verb_copy op verb.Split is other = absurd (other refl)
verb_copy op verb.Down is other = by_verb op verb.Down is refl
verb_copy op verb.Up is other = by_verb op verb.Up is refl
verb_copy op verb.CutDown is other = by_verb op verb.CutDown is refl
verb_copy op verb.CutUp is other = by_verb op verb.CutUp is refl
verb_copy op verb.Forget is other = by_verb op verb.Forget is refl
verb_copy op verb.Adopt is other = by_verb op verb.Adopt is refl
verb_copy op verb.Unmove is other = by_verb op verb.Unmove is refl
verb_copy op verb.Revive is other = by_verb op verb.Revive is refl
verb_copy op verb.Evict is other = by_verb op verb.Evict is refl

due_copy : (same : ℕ → ℕ → Bool) (r l s : Nodes) (op : Op) → IsDueOutside same r l s op → IsCopy op
due_copy same r l s op outside =
    let due = outside.due in
    verb_copy op op.verb refl (parts same due.wish op.id.0 (get r op.id.0) (get l op.id.0) (get s op.id.0) op due.planned).whole

-- a split's copy is of the kind of what it is a copy of
copy_so : (op : Op) (n copy : Node) → op.verb ≡ verb.Split → op.old_local ≡ Some n → op.local ≡ Put copy → copy.kind ≡ n.kind → IsCopy op
copy_so op n copy is old puts kind =
    subst (λ v. CopiesKind (is_split v) op.old_local op.local) (sym is)
    (subst (λ o. CopiesKind true o op.local) (sym old) (subst (CopiesKind true (Some n)) (sym puts) kind))

-- WHAT FLIES
numbered_of : (kinds : Kinds) (n : ℕ) (remote : RemoteState) (ops : List Op) → All IsCopy ops → All (IsFlightOf kinds) (map as_planned (numbered n remote ops))
numbered_of kinds n remote [] all = all_none (IsFlightOf kinds)
numbered_of kinds n remote (op ∷ ops) all = all_front (IsFlightOf kinds) _ _ (record { copy = all_first IsCopy op ops all; stage = tt })
    (numbered_of kinds (n + 1) remote ops (all_rest IsCopy op ops all))

module _ (kinds : Kinds) (p : Planning) (client : IsClient p.client) (can : CanPlan p.client p.next_id) (was : OfClient kinds p.client) where
  abbrev Client : ClientState
  Client = p.client

  flies : (ops : List Op) (c : ClientState) → c ≡ after_fly ops Client → All IsCopy ops → OfClient kinds c
  flies ops c is all = subst (OfClient kinds) (sym is) (record {
    local = was.local;
    flights = all_append (IsFlightOf kinds) Client.flights _ was.flights (numbered_of kinds Client.next_op Client.remote ops all);
  })

  -- NOTED AT ONCE
  noted : (op : Op) (q : Planning) → CanNote Client op → IsNoted op Client p.recorded q.client q.recorded → OfClient kinds q.client
  noted op q note is = subst (OfClient kinds) (sym is.client) (record {
    local = landed_named kinds Client.local client.local.follow was.local op outcome.Ok (whole_copy op note.one) tt note.may.other note.local;
    flights = was.flights;
  })

  adopted : (op : Op) (q : Planning) → IsPlanOf p (plan.Mend op) → op.verb ≡ verb.Adopt → IsAdopted op Client p.recorded q.client q.recorded → OfClient kinds q.client
  adopted op q of is its = subst (OfClient kinds) (sym its.client) (record {
    local = adopted_named kinds Client.local client.local.follow was.local op.other.0 op.id.0 op.local q.client.local.tree (comes p op can of is) its.tree;
    flights = was.flights;
  })

  -- A MEND
  module _ (q : Planning) (op : Op) (of : IsPlanOf p (plan.Mend op)) where
    split_copy : op.verb ≡ verb.Split → IsCopy op
    split_copy is =
        let facts = subst (Facts p op can) is (mend_facts p op can of) in
        copy_so op facts.carried.node _ is (ap (λ (o : Op). o.old_local) facts.carried.is ∙ facts.carried.there) (ap (λ (o : Op). o.local) facts.carried.is) refl

    mend_copy : (v : Verb) → op.verb ≡ v → IsCopy op
    mend_copy verb.Split is = split_copy is
    mend_copy verb.Down is = verb_copy op verb.Down is (λ bad. cc)
    mend_copy verb.Up is = verb_copy op verb.Up is (λ bad. cc)
    mend_copy verb.CutDown is = verb_copy op verb.CutDown is (λ bad. cc)
    mend_copy verb.CutUp is = verb_copy op verb.CutUp is (λ bad. cc)
    mend_copy verb.Forget is = verb_copy op verb.Forget is (λ bad. cc)
    mend_copy verb.Adopt is = verb_copy op verb.Adopt is (λ bad. cc)
    mend_copy verb.Unmove is = verb_copy op verb.Unmove is (λ bad. cc)
    mend_copy verb.Revive is = verb_copy op verb.Revive is (λ bad. cc)
    mend_copy verb.Evict is = verb_copy op verb.Evict is (λ bad. cc)

    noted_mend : op.effect ≡ effect.Nothing → op.verb ≢ verb.Adopt → IsNoted op Client p.recorded q.client q.recorded → OfClient kinds q.client
    noted_mend nothing other its = noted op q (mend_can p op can of nothing other) its

    at_once : (v : Verb) → op.verb ≡ v → op.effect ≡ effect.Nothing → IsMendedAtOnce v op Client p.recorded q.client q.recorded → OfClient kinds q.client
    at_once verb.Adopt is nothing its = adopted op q of is its
    at_once verb.Split is nothing its = noted_mend nothing (λ adopt. let bad : verb.Split ≡ verb.Adopt = sym is ∙ adopt in cc) its
    at_once verb.Down is nothing its = noted_mend nothing (λ adopt. let bad : verb.Down ≡ verb.Adopt = sym is ∙ adopt in cc) its
    at_once verb.Up is nothing its = noted_mend nothing (λ adopt. let bad : verb.Up ≡ verb.Adopt = sym is ∙ adopt in cc) its
    at_once verb.CutDown is nothing its = noted_mend nothing (λ adopt. let bad : verb.CutDown ≡ verb.Adopt = sym is ∙ adopt in cc) its
    at_once verb.CutUp is nothing its = noted_mend nothing (λ adopt. let bad : verb.CutUp ≡ verb.Adopt = sym is ∙ adopt in cc) its
    at_once verb.Forget is nothing its = noted_mend nothing (λ adopt. let bad : verb.Forget ≡ verb.Adopt = sym is ∙ adopt in cc) its
    at_once verb.Unmove is nothing its = noted_mend nothing (λ adopt. let bad : verb.Unmove ≡ verb.Adopt = sym is ∙ adopt in cc) its
    at_once verb.Revive is nothing its = noted_mend nothing (λ adopt. let bad : verb.Revive ≡ verb.Adopt = sym is ∙ adopt in cc) its
    at_once verb.Evict is nothing its = noted_mend nothing (λ adopt. let bad : verb.Evict ≡ verb.Adopt = sym is ∙ adopt in cc) its

    mend_goes : (e : Effect) → op.effect ≡ e → MendGoes e op p q → OfClient kinds q.client
    mend_goes effect.Nothing is goes = at_once op.verb refl is goes.0
    mend_goes effect.Disk is goes = flies (op ∷ []) q.client goes.client (all_front IsCopy op [] (mend_copy op.verb refl) (all_none IsCopy))
    mend_goes effect.Commit is goes = flies (op ∷ []) q.client goes.client (all_front IsCopy op [] (mend_copy op.verb refl) (all_none IsCopy))

  -- EVERY ANSWER
  stays : (q : Planning) → q ≡ p → OfClient kinds q.client
  stays q same = subst (λ (r : Planning). OfClient kinds r.client) (sym same) was

  pub planned_of : (q : Planning) (a : Planned) → PlanAnswers p a q → OfClient kinds q.client
  planned_of q answer.Empty is = stays q is.1
  planned_of q (answer.Busy k) is = stays q is.2
  planned_of q (answer.Booked shown) is = noted is.op q (book_can p is.op can is.plan) is.noted
  planned_of q (answer.Batch shown) is =
      let same = same_hash p.recorded.edits in
      let due = (each_is_due same Client.remote.tree Client.local.tree Client.synced p.next_id is.ops is.plan.1).0 in
      flies is.ops q.client is.client
      (all_map (IsDueOutside same Client.remote.tree Client.local.tree Client.synced) IsCopy (due_copy same Client.remote.tree Client.local.tree Client.synced) is.ops due)
  planned_of q (answer.Mend shown) is = mend_goes q is.op is.plan is.op.effect refl is.goes
