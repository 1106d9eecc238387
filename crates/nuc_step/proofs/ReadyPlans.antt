-- What a plan puts in flight is ready.
use Rattle.std.specs.Prelude.{All, AllPairs}
use Rattle.std.proofs.Common.{◌≡◌, ◌≢◌, ◌+◌, ◌++◌, ℕ, Bool, true, false, cond, None, List, [], ◌∷◌, map, refl, sym, ap, subst, arith}
use Rattle.std.proofs.lemmas.List.Elements.{All-cons, All-head, All-map, All-nil, All-weaker}
use Rattle.std.proofs.lemmas.List.Kept.{AllPairs-cons}
use Rattle.std.specs.FinMap.{get}
use Rattle.nuc_base.specs.Changes.{IsLegal, changed}
use Rattle.nuc_base.specs.Ready.{LegalInTurn}
use Rattle.nuc_base.specs.declared.change.Change.TheVariants.{Cut}
use Rattle.nuc_class.specs.declared.op.Effect.TheVariants.{Nothing}
use Rattle.nuc_class.specs.declared.op.Op.{Op}
use Rattle.nuc_class.specs.declared.op.Verb.{Verb}
use Rattle.nuc_class.specs.declared.op.Verb.TheVariants as verb
use Rattle.nuc_conflict.specs.Facts.{FactsOf}
use Rattle.nuc_conflict.proofs.MendFacts.{mends_have_facts}
use Rattle.nuc_flights.specs.Flights.{as_planned}
use Rattle.nuc_plan.specs.Laws.{IsDueOutside, IsSound}
use Rattle.nuc_plan.specs.declared.plans.Plan.TheVariants as plan
use Rattle.nuc_plan.proofs.Cases.{batch_due}
use Rattle.nuc_plan.proofs.DueFacts.{parts}
use Rattle.nuc_plan.proofs.Planned.{plans_are_sound}
use Rattle.nuc_replica.specs.Remote.{RemoteState}
use Rattle.nuc_safety.specs.Together.{Together}
use Rattle.nuc_safety.proofs.Taking.{pairs}
use Rattle.nuc_step.specs.Client.{ClientState}
use Rattle.nuc_step.specs.Order.{AreSeparate, BatchIsReady, IsReady, KeyStands, MayLand, MendIsReady}
use Rattle.nuc_step.specs.Steps.{OtherIsNew, after_fly, base_of, is_split, numbered, split_changes}
use Rattle.nuc_step.proofs.Flying.{all_numbered}
use Rattle.nuc_step.proofs.StaysReady.{one_in_turn, other_new, pairs_head, pairs_nil, pairs_tail}

-- NUMBERS AND BASES make no difference
module _ (d : ClientState) where
  lands_numbered : (op : Op) (number base : ℕ) → MayLand d (as_planned op) → MayLand d (as_planned (record op { number = number; base = base }))
  lands_numbered op number base may = (
    record { old = may.0.old; other = may.0.other; legal = may.0.legal; key = tt },
    record { old = may.1.old; legal = may.1.legal },
  )

  first_numbered : (o p : Op) (number base : ℕ) → AreSeparate d (as_planned o) (as_planned p) → AreSeparate d (as_planned (record o { number = number; base = base })) (as_planned p)
  first_numbered o p number base apart = record { ids = apart.ids; one = apart.one; other_one = apart.other_one; local = apart.local; synced = apart.synced; keys = tt }

  second_numbered : (o p : Op) (number base : ℕ) → AreSeparate d (as_planned o) (as_planned p) → AreSeparate d (as_planned o) (as_planned (record p { number = number; base = base }))
  second_numbered o p number base apart = record { ids = apart.ids; one = apart.one; other_one = apart.other_one; local = apart.local; synced = apart.synced; keys = tt }

  flown_pairs : (n : ℕ) (remote : RemoteState) (ops : List Op) → AllPairs (λ o p. AreSeparate d (as_planned o) (as_planned p)) ops
      → AllPairs (AreSeparate d) (map as_planned (numbered n remote ops))
  flown_pairs n remote [] all = pairs_nil (AreSeparate d)
  flown_pairs n remote (op ∷ ops) all =
      let first : Op = record op { number = n; base = base_of op.effect remote op.id.0 } in
      let apart = pairs_head (λ o p. AreSeparate d (as_planned o) (as_planned p)) op ops all in
      AllPairs-cons (AreSeparate d) (as_planned first) (map as_planned (numbered (n + 1) remote ops))
      (All-map (AreSeparate d (as_planned first)) as_planned (numbered (n + 1) remote ops)
      (all_numbered (λ p. AreSeparate d (as_planned first) (as_planned p)) (n + 1) remote ops (λ p number base its. second_numbered first p number base its)
      (All-weaker (λ p. AreSeparate d (as_planned op) (as_planned p)) (λ p. AreSeparate d (as_planned first) (as_planned p))
      (λ p its. first_numbered op p n (base_of op.effect remote op.id.0) its) ops apart)))
      (flown_pairs (n + 1) remote ops (pairs_tail (λ o p. AreSeparate d (as_planned o) (as_planned p)) op ops all))

  flown_ready : (n : ℕ) (remote : RemoteState) (ops : List Op) → All (λ op. MayLand d (as_planned op)) ops
      → AllPairs (λ o p. AreSeparate d (as_planned o) (as_planned p)) ops → d.flights ≡ map as_planned (numbered n remote ops) → IsReady d
  flown_ready n remote ops may apart flown = record {
    each = subst (All (MayLand d)) (sym flown) (All-map (MayLand d) as_planned (numbered n remote ops)
        (all_numbered (λ op. MayLand d (as_planned op)) n remote ops lands_numbered may));
    keys = subst (All (λ f. KeyStands d.local.keys f.stage)) (sym flown)
        (All-map (λ f. KeyStands d.local.keys f.stage) as_planned (numbered n remote ops) (λ k e below. tt));
    pairs = subst (AllPairs (AreSeparate d)) (sym flown) (flown_pairs n remote ops apart);
  }

-- what flies where nothing did
flown_alone : (c : ClientState) (ops : List Op) → c.flights ≡ [] → (after_fly ops c).flights ≡ map as_planned (numbered c.next_op c.remote ops)
flown_alone c ops none = ap (λ fs. fs ++ map as_planned (numbered c.next_op c.remote ops)) none

-- A BATCH
not_split : (v : Verb) → v ≢ verb.Split → is_split v ≡ false
not_split verb.Split other = absurd (other refl)
not_split verb.Down other = refl
not_split verb.Up other = refl
not_split verb.CutDown other = refl
not_split verb.CutUp other = refl
not_split verb.Forget other = refl
not_split verb.Adopt other = refl
not_split verb.Unmove other = refl
not_split verb.Revive other = refl
not_split verb.Evict other = refl

-- an operation of one identity, legal where it is to land
one_lands : (c : ClientState) (op : Op) → is_split op.verb ≡ false → get c.local.tree op.id.0 ≡ op.old_local → get c.synced op.id.0 ≡ op.old_synced
    → IsLegal c.local.tree op.id.0 op.local → IsLegal c.synced op.id.0 op.synced → MayLand c (as_planned op)
one_lands c op plain old old_synced local synced = (
  record { old = old; other = other_new c.local.tree op plain; legal = one_in_turn c.local.tree op plain local; key = tt },
  record { old = old_synced; legal = synced },
)

module _ (same : ℕ → ℕ → Bool) (c : ClientState) where
  -- an operation that is due
  record IsReadyOp (op : Op) : Type 0 where
    lands : MayLand c (as_planned op)
    plain : is_split op.verb ≡ false

  due_ready : (op : Op) → IsDueOutside same c.remote.tree c.local.tree c.synced op → IsReadyOp op
  due_ready op is =
      let due = is.due in
      let its = parts same due.wish op.id.0 (get c.remote.tree op.id.0) (get c.local.tree op.id.0) (get c.synced op.id.0) op due.planned in
      let plain = not_split op.verb its.whole in
      record { lands = one_lands c op plain (sym its.old_local) (sym its.old_synced) (due.legal).local (due.legal).synced; plain = plain }

  separate_ops : (ops : List Op) → All IsReadyOp ops → AllPairs (Together c.remote.tree c.local.tree c.synced) ops
      → AllPairs (λ o p. AreSeparate c (as_planned o) (as_planned p)) ops
  separate_ops ops each all i j d less below =
      let both = all i j d less below in
      record {
        ids = both.ids;
        one = (each i d (omega (arith, less, below))).plain;
        other_one = (each j d below).plain;
        local = both.local;
        synced = both.synced;
        keys = tt;
      }

-- what lands in a client lands once others fly
still_lands : (c : ClientState) (ops : List Op) (op : Op) → MayLand c (as_planned op) → MayLand (after_fly ops c) (as_planned op)
still_lands c ops op may = may

still_separate : (c : ClientState) (ops : List Op) (o p : Op) → AreSeparate c (as_planned o) (as_planned p) → AreSeparate (after_fly ops c) (as_planned o) (as_planned p)
still_separate c ops o p apart = record { ids = apart.ids; one = apart.one; other_one = apart.other_one; local = apart.local; synced = apart.synced; keys = tt }

pub batch_is_ready : BatchIsReady
batch_is_ready same c next ops fit none batch =
    let each = All-weaker (IsDueOutside same c.remote.tree c.local.tree c.synced) (IsReadyOp same c) (due_ready same c) ops
    (batch_due same c.remote.tree c.local.tree c.synced ops batch) in
    let together = pairs c.remote.tree c.local.tree c.synced [] batch.due ops (λ i j d less below. absurd (omega (arith, below))) batch.taken in
    let apart = separate_ops same c ops each together in
    flown_ready (after_fly ops c) c.next_op c.remote ops
    (All-weaker (IsReadyOp same c) (λ op. MayLand (after_fly ops c) (as_planned op)) (λ op is. still_lands c ops op is.lands) ops each)
    (λ i j d less below. still_separate c ops _ _ (apart i j d less below))
    (flown_alone c ops none)

-- A MEND
module _ (same : ℕ → ℕ → Bool) (c : ClientState) (next : ℕ) (op : Op) where
  -- where Local and Synced have its old values
  mend_lands : (v : Verb) → op.verb ≡ v → FactsOf same c.remote.tree c.local.tree c.synced next op v → op.effect ≢ Nothing
      → get c.local.tree op.id.0 ≡ op.old_local → get c.synced op.id.0 ≡ op.old_synced → MayLand c (as_planned op)
  mend_lands verb.Split is facts outside old old_synced =
      let other : op.other.0 ≡ next = ap (λ (o : Op). o.other.0) (facts.carried).is in
      let split : is_split op.verb ≡ true = ap is_split is in (
        record {
          old = old;
          other = subst (λ b. OtherIsNew b c.local.tree op.other.0) (sym split) (subst (λ z. get c.local.tree z ≡ None) (sym other) facts.new_in_local);
          legal = subst (λ b. LegalInTurn c.local.tree (cond b (split_changes op) ((op.id.0, op.local) ∷ []))) (sym split)
              (subst (λ z. IsLegal c.local.tree z op.local × (IsLegal (changed c.local.tree z op.local) op.id.0 Cut × Unit {0})) (sym other) (facts.local_put, (facts.local_cut, tt)));
          key = tt;
        },
        record { old = old_synced; legal = facts.synced },
      )
  mend_lands verb.Evict is facts outside old old_synced =
      one_lands c op (ap is_split is) old old_synced (facts.legal).local (facts.legal).synced
  mend_lands verb.Adopt is facts outside old old_synced = absurd (outside (ap (λ (o : Op). o.effect) (facts.carried).is))
  mend_lands verb.Revive is facts outside old old_synced =
      one_lands c op (ap is_split is) old old_synced (facts.legal).local (facts.legal).synced
  mend_lands verb.Unmove is facts outside old old_synced =
      one_lands c op (ap is_split is) old old_synced (facts.legal).local (facts.legal).synced
  mend_lands verb.Down is facts outside old old_synced = absurd facts
  mend_lands verb.Up is facts outside old old_synced = absurd facts
  mend_lands verb.CutDown is facts outside old old_synced = absurd facts
  mend_lands verb.CutUp is facts outside old old_synced = absurd facts
  mend_lands verb.Forget is facts outside old old_synced = absurd facts

pub mend_is_ready : MendIsReady
mend_is_ready same c next op fit none outside stuck =
    let sound : IsSound c.local.tree c.synced op = All-head (IsSound c.local.tree c.synced) op [] (plans_are_sound same c.remote.tree c.local.tree c.synced next (plan.Mend op) fit stuck) in
    let facts = mends_have_facts same c.remote.tree c.local.tree c.synced next op fit stuck.mend in
    let lands = mend_lands same c next op op.verb refl facts outside (sym sound.old_local) (sym sound.old_synced) in
    flown_ready (after_fly (op ∷ []) c) c.next_op c.remote (op ∷ [])
    (All-cons (λ o. MayLand (after_fly (op ∷ []) c) (as_planned o)) op [] (still_lands c (op ∷ []) op lands) (All-nil (λ o. MayLand (after_fly (op ∷ []) c) (as_planned o))))
    (AllPairs-cons (λ o p. AreSeparate (after_fly (op ∷ []) c) (as_planned o) (as_planned p)) op [] (All-nil (λ p. AreSeparate (after_fly (op ∷ []) c) (as_planned op) (as_planned p)))
    (pairs_nil (λ o p. AreSeparate (after_fly (op ∷ []) c) (as_planned o) (as_planned p))))
    (flown_alone c (op ∷ []) none)
