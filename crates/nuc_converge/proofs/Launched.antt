-- A batch of a client that is left alone, as it is planned.
use Rattle.std.specs.Prelude.{AllPairs, Contains, IsTrue}
use Rattle.std.proofs.Common.{◌≡◌, ◌≢◌, ◌≤◌, ◌+◌, ◌++◌, ◌==◌, ℕ, zero, suc, Bool, true, false, cond, List, [], ◌∷◌, length, map, Option, None, Some, refl, sym, ap, subst, ◌∙◌, inl, inr, arith}
use Rattle.std.specs.FinMap.{get}
use Rattle.std.proofs.lemmas.Bool.{cases_Bool, cases_lt, eqb-true}
use Rattle.std.proofs.lemmas.List.{length-map}
use Rattle.std.proofs.lemmas.List.Elements.{All-contains}
use Rattle.std.proofs.lemmas.List.Folds.{Any-from_list_any}
use Rattle.std.proofs.lemmas.Option.{none-some, same_Some}
use Rattle.nuc_base.specs.Ready.{OneOf}
use Rattle.nuc_base.specs.Trees.{Nodes}
use Rattle.nuc_base.specs.declared.change.Change.{Change}
use Rattle.nuc_base.specs.declared.change.Change.TheVariants.{Keep, Put, Cut}
use Rattle.nuc_base.specs.declared.node.Node.{Node}
use Rattle.nuc_base.proofs.Ready.{ready_fewer}
use Rattle.nuc_class.specs.Effects.{effect_of, is_shown}
use Rattle.nuc_class.specs.Merge.{target}
use Rattle.nuc_class.specs.Op.{operation}
use Rattle.nuc_class.specs.Wishes.{AllEqual, IsWish, WantsDown}
use Rattle.nuc_class.specs.declared.op.Effect.TheVariants as effect
use Rattle.nuc_class.specs.declared.op.Op.{Op}
use Rattle.nuc_class.specs.declared.wishes.Wish.{Wish}
use Rattle.nuc_class.specs.declared.wishes.Wish.TheVariants as wish
use Rattle.nuc_conflict.proofs.Calm.{going_local_parts, going_remote_parts}
use Rattle.nuc_edits.specs.Edits.{same_hash}
use Rattle.nuc_flights.specs.Flights.{Flight, as_planned, planned, taken}
use Rattle.nuc_flights.specs.declared.taken.Taken.{Taken}
use Rattle.nuc_flights.specs.declared.taken.Taken.TheVariants as came
use Rattle.nuc_journal.specs.declared.entry.Entry.{Entry}
use Rattle.nuc_measure.specs.Differing.{differs}
use Rattle.nuc_measure.specs.Potential.{IsCarried, IsPotential, no_flight, points}
use Rattle.nuc_measure.proofs.Bounds.{nowhere_from, some_bound}
use Rattle.nuc_measure.proofs.Counting.{tells_equal}
use Rattle.nuc_measure.proofs.Points.{points_differ, points_equal}
use Rattle.nuc_measure.proofs.Totals.{total_le}
use Rattle.nuc_plan.specs.Laws.{IsDueOutside}
use Rattle.nuc_plan.specs.declared.plans.Plan.TheVariants as plan
use Rattle.nuc_plan.proofs.Cases.{batches_in_every_order, each_is_due}
use Rattle.nuc_plan.proofs.DueFacts.{not_due}
use Rattle.nuc_replica.specs.Remote.{RemoteState}
use Rattle.nuc_safety.specs.Batch.{in_remote}
use Rattle.nuc_step.specs.Client.{ClientState}
use Rattle.nuc_step.specs.Order.{AreSeparate, IsReady}
use Rattle.nuc_step.specs.Planning.{CanPlan, IsLaunched, IsPlanOf, Planning}
use Rattle.nuc_step.specs.Steps.{after_fly, base_of, numbered}
use Rattle.nuc_step.specs.declared.answers.Planned.TheVariants as answer
use Rattle.nuc_step.proofs.Flying.{length_numbered}
use Rattle.nuc_step.proofs.ReadyPlans.{batch_is_ready}
use Rattle.nuc_converge.proofs.Grounded.{NoneAhead, grounded_carries, none_ahead, nobody}
use Rattle.nuc_converge.proofs.InFlight.{IsAlone, IsBatch, IsToCome, Means, Means as means, flies}
use Rattle.nuc_converge.proofs.InFlight.IsAlone.{batch}
use Rattle.nuc_converge.proofs.Parts.{HasPlanned}

-- WHAT FLIES where it differs still carries no more than the potential
flier : (fs : List Flight) (x : ℕ) → IsTrue (flies fs x) → (f : Flight) × Contains fs f × (f.op.id.0 ≡ x)
flier fs x up =
    let found = Any-from_list_any (λ (f : Flight). f.op.id.0 == x) fs up in
    (found.1, (found.0, found.2, found.3), eqb-true found.1.op.id.0 x found.4)

module _ (same : ℕ → ℕ → Bool) (r l s : Nodes) (fs : List Flight)
    (apart : (f : Flight) → Contains fs f → ¬ (AllEqual (get r f.op.id.0) (get l f.op.id.0) (get s f.op.id.0))) where
  flying_differs : (x : ℕ) → IsTrue (flies fs x) → AllEqual (get r x) (get l x) (get s x) → ⊥
  flying_differs x up equal =
      let (f, flying, id) = flier fs x up in
      apart f flying (subst (λ y. AllEqual (get r y) (get l y) (get s y)) (sym id) equal)

  points_as_before : (x : ℕ) → points same (flies fs) r l s x ≡ points same no_flight r l s x
  points_as_before x = elim (cases_Bool (differs (get r x) (get l x) (get s x))) [
    | inl d ↦ points_differ same (flies fs) r l s x d ∙ sym (points_differ same no_flight r l s x d)
    | inr d ↦
        let equal = tells_equal (get r x) (get l x) (get s x) d in
        points_equal same (flies fs) r l s x equal ∙ ap (λ (b : Bool). cond b 1 0) (grounded equal (flies fs x) refl)
        ∙ sym (points_equal same no_flight r l s x equal)
  ]
    where
      grounded : AllEqual (get r x) (get l x) (get s x) → (b : Bool) → flies fs x ≡ b → flies fs x ≡ false
      grounded equal true up = absurd (flying_differs x up equal)
      grounded equal false down = down

  pub launched_carries : (a b : ℕ) → IsPotential same r l s a → IsCarried same (flies fs) r l s b → b ≤ a
  launched_carries a b is_a is_b =
      let bound = some_bound r l s in
      let a_sum = is_a bound.0 bound.1 in
      let b_sum = is_b bound.0 bound.1 (λ x up. elim (cases_lt x bound.0) [
        | inl less ↦ less
        | inr from ↦
            let nowhere = nowhere_from r l s bound.0 x bound.1 from in
            absurd (flying_differs x up (nowhere.remote ∙ sym nowhere.local, nowhere.local ∙ sym nowhere.synced))
      ]) in
      let le = total_le bound.0 (points same (flies fs) r l s) (points same no_flight r l s)
      (λ x h. let is = points_as_before x in omega (arith, is)) in
      omega (arith, a_sum, b_sum, le)

-- WHICH OPERATIONS FLY: those of the batch, with numbers and bases
abbrev pub flown : ℕ → ℕ → Op → Flight
flown number base op = as_planned (record op { number = number; base = base })

record IsFlown (ops : List Op) (f : Flight) : Type 0 where
  op : Op
  within : Contains ops op
  number : ℕ
  base : ℕ
  is : f ≡ flown number base op

later_flown : (op : Op) (ops : List Op) (f : Flight) → IsFlown ops f → IsFlown (op ∷ ops) f
later_flown op ops f is =
    let (k, within, at) = is.within in
    record { op = is.op; within = (suc k, omega (arith, within), at); number = is.number; base = is.base; is = is.is }

which_flies : (n : ℕ) (remote : RemoteState) (ops : List Op) (f : Flight) → Contains (map as_planned (numbered n remote ops)) f → IsFlown ops f
which_flies n remote [] f flying = absurd (nobody f flying)
which_flies n remote (op ∷ ops) f (zero, within, is) =
    record { op = op; within = (0, omega arith, refl); number = n; base = base_of op.effect remote op.id.0; is = sym is }
which_flies n remote (op ∷ ops) f (suc k, within, is) =
    later_flown op ops f (which_flies (n + 1) remote ops f (k, omega (arith, within), is))

-- WHAT EACH MEANS
wants_down : (same : ℕ → ℕ → Bool) (Goes : Type 0) (r l s : Option Node) → WantsDown same Goes r l s → WantsDown same ⊥ r l s
wants_down same Goes (Some r) (Some l) s wants = wants
wants_down same Goes (Some r) None s wants = λ never. never
wants_down same Goes None l s wants = absurd wants

pub on_disk : (b : Bool) → cond b effect.Disk effect.Nothing ≢ effect.Nothing → cond b effect.Disk effect.Nothing ≡ effect.Disk
on_disk true outside = refl
on_disk false outside = absurd (outside refl)

module _ (same : ℕ → ℕ → Bool) (r l s : Nodes) (cursor : ℕ) (x : ℕ) (apart : ¬ (AllEqual (get r x) (get l x) (get s x))) where
  abbrev Meant : Op → Type 0
  Meant op = op.effect ≢ effect.Nothing → (number base : ℕ) → Means same r l s cursor (flown number base op)

  down_means : (o : Option Node) (op : Op) → get r x ≡ o → IsWish same r l s x wish.Down → operation same wish.Down x o (get l x) (get s x) ≡ Some op → Meant op
  down_means None op at wished is = absurd (none-some op is)
  down_means (Some n) op at wished is = subst Meant (same_Some _ op is) (λ outside number base.
      means.down n at (wants_down same _ (get r x) (get l x) (get s x) wished) (record { remote = refl; local = refl; synced = refl; one = refl })
      (on_disk (is_shown same (get l x) (Put (target n (get l x) (get s x)))) outside) tt)

  up_means : (o : Option Node) (op : Op) → get l x ≡ o → operation same wish.Up x (get r x) o (get s x) ≡ Some op → Meant op
  up_means None op at is = absurd (none-some op is)
  up_means (Some n) op at is = subst Meant (same_Some _ op is) (λ outside number base.
      means.up n at apart (record { remote = refl; local = refl; synced = refl; one = refl }) refl tt (λ never. never))

  nothing_shown : (o : Option Node) → effect_of same o Keep Keep ≡ effect.Nothing
  nothing_shown None = refl
  nothing_shown (Some n) = refl

  by_wish : (w : Wish) (op : Op) → IsWish same r l s x w → operation same w x (get r x) (get l x) (get s x) ≡ Some op → Meant op
  by_wish wish.Split op wished is = absurd (none-some op is)
  by_wish wish.Nothing op wished is = absurd (none-some op is)
  by_wish wish.Down op wished is = down_means (get r x) op refl wished is
  by_wish wish.Up op wished is = up_means (get l x) op refl is
  by_wish wish.CutDown op wished is = subst Meant (same_Some _ op is) (λ outside number base.
      let (none, n, at, synced) = going_local_parts same r l s x wished in
      means.cut_down n none at (record { remote = refl; local = refl; synced = refl; one = refl }) (on_disk (is_shown same (get l x) Cut) outside) tt)
  by_wish wish.CutUp op wished is = subst Meant (same_Some _ op is) (λ outside number base.
      let (none, n, at, synced) = going_remote_parts same r l s x wished in
      means.cut_up n none at (record { remote = refl; local = refl; synced = refl; one = refl }) refl tt (λ never. never))
  by_wish wish.Forget op wished is = subst Meant (same_Some _ op is) (λ outside number base. absurd (outside (nothing_shown (get l x))))

-- NO TWO OF ONE IDENTITY
one_by_id : (R : Flight → Flight → Type 0) → ((f g : Flight) → R f g → f.op.id.0 ≢ g.op.id.0) → (fs : List Flight) → AllPairs R fs
    → (f g : Flight) → Contains fs f → Contains fs g → f.op.id.0 ≡ g.op.id.0 → f ≡ g
one_by_id R tells [] pairs f g flying too ids = absurd (nobody f flying)
one_by_id R tells (h ∷ fs) pairs f g (zero, in_i, is_f) (zero, in_j, is_g) ids = sym is_f ∙ is_g
one_by_id R tells (h ∷ fs) pairs f g (zero, in_i, is_f) (suc j, in_j, is_g) ids =
    let apart : R h g = All-contains (R h) fs g (λ k d below. pairs 0 (suc k) d (omega arith) (omega (arith, below))) (j, omega (arith, in_j), is_g) in
    absurd (tells h g apart (ap (λ (e : Flight). e.op.id.0) is_f ∙ ids))
one_by_id R tells (h ∷ fs) pairs f g (suc i, in_i, is_f) (zero, in_j, is_g) ids =
    let apart : R h f = All-contains (R h) fs f (λ k d below. pairs 0 (suc k) d (omega arith) (omega (arith, below))) (i, omega (arith, in_i), is_f) in
    absurd (tells h f apart (ap (λ (e : Flight). e.op.id.0) is_g ∙ sym ids))
one_by_id R tells (h ∷ fs) pairs f g (suc i, in_i, is_f) (suc j, in_j, is_g) ids =
    one_by_id R tells fs (λ k m d less below. pairs (suc k) (suc m) d (omega (arith, less)) (omega (arith, below))) f g
    (i, omega (arith, in_i), is_f) (j, omega (arith, in_j), is_g) ids

-- what an operation writes in Remote is among what all write there
abbrev remote_of : Op → ℕ × Change
remote_of op = (op.id.0, op.remote)

writes_remote : (ops : List Op) (op : Op) → Contains ops op → Contains (in_remote ops) (remote_of op)
writes_remote [] op within = absurd (nobody op within)
writes_remote (o ∷ ops) op (zero, within, is) = (0, omega arith, ap remote_of is)
writes_remote (o ∷ ops) op (suc k, within, is) =
    let (j, in_j, at) = writes_remote ops op (k, omega (arith, within), is) in
    (suc j, omega (arith, in_j), at)

-- THE BATCH
module _ (p : Planning) (ops : List Op) (can : CanPlan p.client p.next_id) (of_plan : IsPlanOf p (plan.Batch ops)) (entries : List Entry)
    (none : NoneAhead (same_hash p.recorded.edits) entries p.client.remote.cursor) where
  abbrev alike : ℕ → ℕ → Bool
  alike = same_hash p.recorded.edits

  abbrev r : Nodes
  r = p.client.remote.tree

  abbrev l : Nodes
  l = p.client.local.tree

  abbrev s : Nodes
  s = p.client.synced

  abbrev after : ClientState
  after = after_fly ops p.client

  abbrev fs : List Flight
  fs = map as_planned (numbered p.client.next_op p.client.remote ops)

  flights_are : after.flights ≡ fs
  flights_are = ap (λ gs. gs ++ map as_planned (numbered p.client.next_op p.client.remote ops)) of_plan.0

  which : (f : Flight) → Contains fs f → IsFlown ops f
  which f flying = which_flies p.client.next_op p.client.remote ops f flying

  due_of : (op : Op) → Contains ops op → IsDueOutside alike r l s op
  due_of op within = All-contains (IsDueOutside alike r l s) ops op (each_is_due alike r l s p.next_id ops of_plan.1).0 within

  differs_at : (op : Op) → Contains ops op → AllEqual (get r op.id.0) (get l op.id.0) (get s op.id.0) → ⊥
  differs_at op within equal = not_due alike r l s op.id.0 op equal (due_of op within).due

  each_means : (f : Flight) → Contains fs f → Means alike r l s p.client.remote.cursor f
  each_means f flying =
      let one = which f flying in
      let is = due_of one.op one.within in
      subst (Means alike r l s p.client.remote.cursor) (sym one.is)
      (by_wish alike r l s p.client.remote.cursor one.op.id.0 (differs_at one.op one.within) is.due.wish one.op is.due.wished is.due.planned
      is.outside one.number one.base)

  each_differs : (f : Flight) → Contains fs f → ¬ (AllEqual (get r f.op.id.0) (get l f.op.id.0) (get s f.op.id.0))
  each_differs f flying equal =
      let one = which f flying in
      differs_at one.op one.within (subst (λ (g : Flight). AllEqual (get r g.op.id.0) (get l g.op.id.0) (get s g.op.id.0)) one.is equal)

  to_come : (x : ℕ) (c : Change) → IsToCome p.client.remote.cursor fs x c → OneOf (in_remote ops) x c
  to_come x c its =
      let one = which its.f its.flies in
      let id : one.op.id.0 ≡ x = sym (ap (λ (f : Flight). f.op.id.0) one.is) ∙ its.id in
      let writes : one.op.remote ≡ c = sym (ap (λ (f : Flight). f.op.remote) one.is) ∙ its.writes in
      subst (λ y. Contains (in_remote ops) (y, c)) id (subst (λ d. Contains (in_remote ops) (one.op.id.0, d)) writes (writes_remote ops one.op one.within))

  is_ready : IsReady after
  is_ready = batch_is_ready alike p.client p.next_id ops can of_plan.0 of_plan.1

  not_taken : (f : Flight) (t : Taken) → Contains fs f → f.stage ≡ taken t → ⊥
  not_taken f t flying at =
      let one = which f flying in
      let clash : planned ≡ taken t = sym (ap (λ (g : Flight). g.stage) one.is) ∙ at in
      cc

  is_batch : IsBatch alike r l s p.client.remote.cursor entries fs
  is_batch = record {
    means = each_means;
    one_id = one_by_id (AreSeparate after) (λ f g separate. separate.ids) fs (subst (AllPairs (AreSeparate after)) flights_are is_ready.pairs);
    one_revision = λ f g rev flying too at at_too. absurd (not_taken f (came.Accepted rev) flying at);
    ready = ready_fewer r (OneOf (in_remote ops)) (IsToCome p.client.remote.cursor fs) to_come
        (batches_in_every_order alike r l s p.next_id ops can.fit.remote can.fit.local can.fit.synced can.fit.remote_local of_plan.1).0.remote;
    news = λ e ahead. absurd (none e ahead);
  }

  batch_alone : (shown : List Op) → length shown ≡ length ops → HasPlanned alike entries p.client after (answer.Batch shown)
  batch_alone shown as_many = record {
    alone = batch (subst (IsBatch alike r l s p.client.remote.cursor entries) (sym flights_are) is_batch);
    ready = is_ready;
    pays = λ a b is_a is_b.
        let le = launched_carries alike r l s fs each_differs a b (grounded_carries alike p.client a of_plan.0 is_a)
        (subst (λ gs. IsCarried alike (flies gs) r l s b) flights_are is_b) in
        omega (arith, le);
    counts =
        let before : length p.client.flights ≡ 0 = ap length of_plan.0 in
        let now : length after.flights ≡ length fs = ap length flights_are in
        let many : length fs ≡ length ops =
        length-map (numbered p.client.next_op p.client.remote ops) as_planned ∙ length_numbered p.client.next_op p.client.remote ops in
        omega (arith, before, now, many, as_many);
  }

pub launched_alone : (p q : Planning) (shown : List Op) (entries : List Entry) → CanPlan p.client p.next_id
    → IsAlone (same_hash p.recorded.edits) entries p.client → IsLaunched p shown q → HasPlanned (same_hash p.recorded.edits) entries p.client q.client (answer.Batch shown)
launched_alone p q shown entries can is it =
    let same = same_hash p.recorded.edits in
    let as_many : length shown ≡ length it.ops = ap length it.is ∙ length_numbered p.client.next_op p.client.remote it.ops in
    subst (λ (d : ClientState). HasPlanned same entries p.client d (answer.Batch shown)) (sym it.client)
    (batch_alone p it.ops can it.plan entries (none_ahead same entries p.client it.plan.0 is) shown as_many)
