-- After a plan a client is a client still, and its three trees fit together.
use Rattle.std.proofs.Common.{◌≡◌, ◌≢◌, ◌⊎◌, ◌<◌, ◌≤◌, ◌+◌, ◌∷◌, [], ℕ, Bool, Option, None, Some, refl, sym, ap, subst, ◌∙◌, inl, inr, arith}
use Rattle.std.proofs.lemmas.List.Elements.{All-cons, All-nil}
use Rattle.std.proofs.lemmas.Option.{none-some, same_Some}
use Rattle.std.specs.FinMap.{get}
use Rattle.nuc_base.specs.Changes.{changed}
use Rattle.nuc_base.specs.Renamed.{IsRenamed}
use Rattle.nuc_base.specs.Trees.{Nodes}
use Rattle.nuc_base.specs.declared.change.Change.{Change}
use Rattle.nuc_base.specs.declared.change.Change.TheVariants.{Keep, Put, Cut}
use Rattle.nuc_base.specs.declared.node.Kind.{Kind}
use Rattle.nuc_base.specs.declared.node.Node.{Node}
use Rattle.nuc_base.proofs.Came.{Came, came_from}
use Rattle.nuc_base.proofs.Came.Came.{renamed, stood, child}
use Rattle.nuc_base.proofs.Changed.{get_changed_other, tree_after}
use Rattle.nuc_base.proofs.Maps.{same_or_not}
use Rattle.nuc_class.specs.Effects.{effect_of}
use Rattle.nuc_class.specs.Merge.{target}
use Rattle.nuc_class.specs.Op.{operation}
use Rattle.nuc_class.specs.declared.op.Effect.{Effect}
use Rattle.nuc_class.specs.declared.op.Effect.TheVariants as effect
use Rattle.nuc_class.specs.declared.op.Op.{Op}
use Rattle.nuc_class.specs.declared.op.Verb.{Verb}
use Rattle.nuc_class.specs.declared.op.Verb.TheVariants as verb
use Rattle.nuc_class.specs.declared.wishes.Wish.{Wish}
use Rattle.nuc_class.specs.declared.wishes.Wish.TheVariants as wish
use Rattle.nuc_conflict.specs.After.{ComesFor, IsLocalAfter}
use Rattle.nuc_conflict.specs.Facts.{AdoptionFacts}
use Rattle.nuc_conflict.specs.FitTogether.{FitTogether, IsBelow}
use Rattle.nuc_conflict.proofs.After.{ChangesOne, PutsKind, changes_one, counted, kind_in_local, kind_in_remote, mends_keep_form}
use Rattle.nuc_edits.specs.Edits.{Recorded, same_hash}
use Rattle.nuc_folder.specs.declared.outcome.Outcome.TheVariants as outcome
use Rattle.nuc_plan.specs.declared.plans.Plan.TheVariants as plan
use Rattle.nuc_plan.proofs.DueFacts.{due_anywhere}
use Rattle.nuc_plan.proofs.Planned.{record_steps_stay_here}
use Rattle.nuc_step.specs.Client.{ClientState}
use Rattle.nuc_step.specs.Laws.{PlansKeepClients}
use Rattle.nuc_step.specs.Planning.{CanNote, CanPlan, IsAdopted, IsMendedAtOnce, IsNoted, IsPlanOf, MendFlies, MendGoes, Planning, next_after}
use Rattle.nuc_step.specs.Sound.{AreNumbered, IsClient, MayFly}
use Rattle.nuc_step.specs.Steps.{local_after}
use Rattle.nuc_step.specs.declared.answers.Planned.TheVariants as answer
use Rattle.nuc_step.proofs.LocalAfter.{adopted_sound, local_sound}
use Rattle.nuc_step.proofs.Notes.{Facts, adoption, batch_may, book_can, may_fly, mend_can, mend_facts, mend_sound}
use Rattle.nuc_step.proofs.Noticed.{one_change}
use Rattle.nuc_step.proofs.Steady.{steps_keep}

-- IDENTITIES BELOW THE NEXT
below_changed : (m : Nodes) (x : ℕ) (c : Change) (next : ℕ) → IsBelow m next → x < next → IsBelow (changed m x c) next
below_changed m x c next below less y n at = elim (same_or_not y x) [
  | inl s ↦ omega (arith, s, less)
  | inr apart ↦ below y n (sym (get_changed_other m x c y apart) ∙ at)
]

below_later : (m : Nodes) (n k : ℕ) → n ≤ k → IsBelow m n → IsBelow m k
below_later m n k le below y h at = let was = below y h at in omega (arith, was, le)

can_later : (c : ClientState) (n k : ℕ) → n ≤ k → CanPlan c n → CanPlan c k
can_later c n k le can = record {
  fit = can.fit;
  remote = below_later c.remote.tree n k le can.remote;
  local = below_later c.local.tree n k le can.local;
  synced = below_later c.synced n k le can.synced;
}

-- A RECORD STEP puts nodes of one kind
record PutsOf (op : Op) (kind : Kind) : Type 0 where
  pub remote : PutsKind op.remote kind
  pub local : PutsKind op.local kind
  pub synced : PutsKind op.synced kind

target_kind : (r : Node) (l s : Option Node) → (target r l s).kind ≡ r.kind
target_kind r None s = refl
target_kind r (Some l) None = refl
target_kind r (Some l) (Some s) = refl

puts_of : (same : ℕ → ℕ → Bool) (w : Wish) (x : ℕ) (r l s : Option Node) (op : Op) (kind : Kind) → operation same w x r l s ≡ Some op
    → ((n : Node) → r ≡ Some n → n.kind ≡ kind) → ((n : Node) → l ≡ Some n → n.kind ≡ kind) → PutsOf op kind
puts_of same wish.Split x r l s op kind e of_r of_l = absurd (none-some op e)
puts_of same wish.Nothing x r l s op kind e of_r of_l = absurd (none-some op e)
puts_of same wish.Down x None l s op kind e of_r of_l = absurd (none-some op e)
puts_of same wish.Down x (Some r) l s op kind e of_r of_l =
    subst (λ (o : Op). PutsOf o kind) (same_Some _ op e) (record { remote = tt; local = target_kind r l s ∙ of_r r refl; synced = of_r r refl })
puts_of same wish.Up x r None s op kind e of_r of_l = absurd (none-some op e)
puts_of same wish.Up x r (Some l) s op kind e of_r of_l =
    subst (λ (o : Op). PutsOf o kind) (same_Some _ op e) (record { remote = of_l l refl; local = tt; synced = of_l l refl })
puts_of same wish.CutDown x r l s op kind e of_r of_l = subst (λ (o : Op). PutsOf o kind) (same_Some _ op e) (record { remote = tt; local = tt; synced = tt })
puts_of same wish.CutUp x r l s op kind e of_r of_l = subst (λ (o : Op). PutsOf o kind) (same_Some _ op e) (record { remote = tt; local = tt; synced = tt })
puts_of same wish.Forget x r l s op kind e of_r of_l = subst (λ (o : Op). PutsOf o kind) (same_Some _ op e) (record { remote = tt; local = tt; synced = tt })

-- WHAT IS NOTED
module _ (c d : ClientState) (e f : Recorded) (op : Op) (can : CanNote c op) (noted : IsNoted op c e d f) where
  noted_client : IsClient c → c.flights ≡ [] → IsClient d
  noted_client is idle = subst IsClient (sym noted.client) (record {
    remote = is.remote;
    local = local_sound op outcome.Ok c.local is.local can.may can.old refl can.local;
    synced = tree_after c.synced op.id.0 op.synced is.synced can.may.id can.may.fits.synced can.synced.legal;
    flights = is.flights;
    numbers = subst (λ fs. AreNumbered fs (c.next_op + 1)) (sym idle) tt;
  })

  -- with Remote left as it is
  noted_fits : (next : ℕ) → FitTogether c.remote.tree (changed c.local.tree op.id.0 op.local) (changed c.synced op.id.0 op.synced) → op.id.0 < next
      → CanPlan c next → CanPlan d next
  noted_fits next fit less can_plan =
      let same : (local_after op outcome.Ok c.local).tree ≡ changed c.local.tree op.id.0 op.local = one_change op c.local can.one in
      subst (λ (b : ClientState). CanPlan b next) (sym noted.client) (record {
        fit = subst (λ l. FitTogether c.remote.tree l (changed c.synced op.id.0 op.synced)) (sym same) fit;
        remote = can_plan.remote;
        local = subst (λ l. IsBelow l next) (sym same) (below_changed c.local.tree op.id.0 op.local next can_plan.local less);
        synced = below_changed c.synced op.id.0 op.synced next can_plan.synced less;
      })

remote_kept : (same : ℕ → ℕ → Bool) (l : Option Node) (c remote : Change) → effect_of same l c remote ≡ effect.Nothing → remote ≡ Keep
remote_kept same l c Keep e = refl
remote_kept same l c (Put n) e = absurd (let bad : effect.Commit ≡ effect.Nothing = e in cc)
remote_kept same l c Cut e = absurd (let bad : effect.Commit ≡ effect.Nothing = e in cc)

module _ (p : Planning) (op : Op) (is : IsClient p.client) (can : CanPlan p.client p.next_id) where
  abbrev alike : ℕ → ℕ → Bool
  alike = same_hash p.recorded.edits

  abbrev r : Nodes
  r = p.client.remote.tree

  abbrev l : Nodes
  l = p.client.local.tree

  abbrev s : Nodes
  s = p.client.synced

  -- A RECORD STEP
  step_fits : IsPlanOf p (plan.Booked op) → FitTogether r (changed l op.id.0 op.local) (changed s op.id.0 op.synced) × (op.id.0 < p.next_id)
  step_fits planned =
      let due = planned.1.step.due in
      let here = record_steps_stay_here alike r l s p.next_id op can.fit.remote can.fit.local can.fit.synced can.fit.remote_local planned.1 in
      let who : (n : Node) × ((get r op.id.0 ≡ Some n) ⊎ ((get l op.id.0 ≡ Some n) ⊎ (get s op.id.0 ≡ Some n))) =
      elim (due_anywhere alike r l s op.id.0 op due) [
        | inl (n, at) ↦ (n, inl at)
        | inr other ↦ elim other [ inl (n, at) ↦ (n, inr (inl at)) | inr (n, at) ↦ (n, inr (inr at)) ]
      ] in
      let puts = puts_of alike due.wish op.id.0 (get r op.id.0) (get l op.id.0) (get s op.id.0) op who.0.kind due.planned
      (kind_in_remote r l s p.next_id can op.id.0 who.0 who.1) (kind_in_local r l s p.next_id can op.id.0 who.0 who.1) in
      let one : ChangesOne r l s p.next_id op = record {
        node = who.0;
        there = who.1;
        remote = puts.remote;
        local = puts.local;
        synced = puts.synced;
        legal = here.possible.legal;
        fits = here.possible.fits;
      } in (
        subst (λ k. FitTogether k (changed l op.id.0 op.local) (changed s op.id.0 op.synced)) (ap (λ k. changed r op.id.0 k) here.remote)
            (changes_one r l s p.next_id can op one).fit,
        (counted r l s p.next_id can op.id.0 who.0 who.1).1,
      )

  booked_keeps : (q : Planning) → IsPlanOf p (plan.Booked op) → IsNoted op p.client p.recorded q.client q.recorded → q.next_id ≡ p.next_id
      → IsClient q.client × CanPlan q.client q.next_id
  booked_keeps q planned noted next =
      let may = book_can p op can planned in
      let fits = step_fits planned in (
        noted_client p.client q.client p.recorded q.recorded op may noted is planned.0,
        subst (λ n. CanPlan q.client n) (sym next) (noted_fits p.client q.client p.recorded q.recorded op may noted p.next_id fits.0 fits.1 can),
      )

  -- A MEND THAT FLIES
  flies_keeps : (q : Planning) → IsPlanOf p (plan.Mend op) → MendFlies op p q → IsClient q.client × CanPlan q.client q.next_id
  flies_keeps q planned flies =
      let may = may_fly l s op (mend_sound p op can planned) in (
        subst IsClient (sym flies.client) ((steps_keep p.client is).fly (op ∷ []) (All-cons MayFly op [] may (All-nil MayFly))),
        subst (λ n. CanPlan q.client n) (sym flies.next_id)
            (subst (λ (c : ClientState). CanPlan c (next_after op.verb p.next_id)) (sym flies.client)
            (can_later p.client p.next_id (next_after op.verb p.next_id) (no_less op.verb p.next_id) can)),
      )
    where
      no_less : (v : Verb) (n : ℕ) → n ≤ next_after v n
      no_less verb.Split n = omega arith
      no_less verb.Down n = omega arith
      no_less verb.Up n = omega arith
      no_less verb.CutDown n = omega arith
      no_less verb.CutUp n = omega arith
      no_less verb.Forget n = omega arith
      no_less verb.Adopt n = omega arith
      no_less verb.Unmove n = omega arith
      no_less verb.Revive n = omega arith
      no_less verb.Evict n = omega arith

  -- AN EVICTION THAT IS NOTED
  evict_fits : IsPlanOf p (plan.Mend op) → op.effect ≡ effect.Nothing → (v : Verb) → op.verb ≡ v → Facts p op can v → v ≢ verb.Adopt
      → FitTogether r (changed l op.id.0 op.local) (changed s op.id.0 op.synced) × (op.id.0 < p.next_id)
  evict_fits planned nothing verb.Evict named facts other =
      let is_op = facts.carried.is in
      let effect_eq : op.effect ≡ effect_of alike (get l op.id.0) op.local op.remote = ap (λ (o : Op). o.effect) is_op in
      let kept : op.remote ≡ Keep = remote_kept alike (get l op.id.0) op.local op.remote (sym effect_eq ∙ nothing) in
      let local : IsLocalAfter op.verb op l (changed l op.id.0 op.local) =
      subst (λ v. IsLocalAfter v op l (changed l op.id.0 op.local)) (sym named) refl in
      let after = mends_keep_form alike r l s p.next_id op (changed r op.id.0 op.remote) (changed l op.id.0 op.local) (changed s op.id.0 op.synced) can planned.1.mend
      (record { remote = refl; local = local; synced = refl }) in (
        subst (λ k. FitTogether k (changed l op.id.0 op.local) (changed s op.id.0 op.synced)) (ap (λ k. changed r op.id.0 k) kept) after.fit,
        elim facts.moved [
          | inl (n, at, near) ↦ can.remote op.id.0 n at
          | inr below ↦ elim below [ inl (n, at, near) ↦ can.local op.id.0 n at | inr (n, at, near) ↦ can.synced op.id.0 n at ]
        ],
      )
  evict_fits planned nothing verb.Adopt named facts other = absurd (other refl)
  evict_fits planned nothing verb.Split named facts other = absurd (let bad : effect.Disk ≡ effect.Nothing = sym (ap (λ (o : Op). o.effect) facts.carried.is) ∙ nothing in cc)
  evict_fits planned nothing verb.Revive named facts other = absurd (let bad : effect.Disk ≡ effect.Nothing = sym (ap (λ (o : Op). o.effect) facts.carried.is) ∙ nothing in cc)
  evict_fits planned nothing verb.Unmove named facts other = absurd (let bad : effect.Disk ≡ effect.Nothing = sym (ap (λ (o : Op). o.effect) facts.carried.is) ∙ nothing in cc)
  evict_fits planned nothing verb.Down named facts other = absurd facts
  evict_fits planned nothing verb.Up named facts other = absurd facts
  evict_fits planned nothing verb.CutDown named facts other = absurd facts
  evict_fits planned nothing verb.CutUp named facts other = absurd facts
  evict_fits planned nothing verb.Forget named facts other = absurd facts

  evicted_keeps : (q : Planning) → IsPlanOf p (plan.Mend op) → op.effect ≡ effect.Nothing → op.verb ≢ verb.Adopt
      → IsNoted op p.client p.recorded q.client q.recorded → q.next_id ≡ p.next_id → IsClient q.client × CanPlan q.client q.next_id
  evicted_keeps q planned nothing other noted next =
      let may = mend_can p op can planned nothing other in
      let fits = evict_fits planned nothing op.verb refl (mend_facts p op can planned) other in (
        noted_client p.client q.client p.recorded q.recorded op may noted is planned.0,
        subst (λ n. CanPlan q.client n) (sym next) (noted_fits p.client q.client p.recorded q.recorded op may noted p.next_id fits.0 fits.1 can),
      )

  -- AN ADOPTION
  module _ (k : Nodes) (facts : AdoptionFacts alike r l s op) (comes : ComesFor l op.other.0 op.id.0 op.local k) where
    abbrev comer : Node
    comer = record facts.carried.node { bit = facts.carried.own.bit }

    comes_so : IsRenamed l op.other.0 op.id.0 comer k
    comes_so = subst (λ c. ComesFor l op.other.0 op.id.0 c k) (ap (λ (o : Op). o.local) facts.carried.is) comes

    came_below : (w : ℕ) (g : Node) → Came l op.other.0 op.id.0 comer w g → w < p.next_id
    came_below w g (renamed same now) = let under = can.remote op.id.0 facts.node facts.there in omega (arith, under, same)
    came_below w g (stood other apart was off) = can.local w g was
    came_below w g (child i other apart was off now) = can.local w i was

    adopted_below : IsBelow k p.next_id
    adopted_below w g at = came_below w g (came_from l op.other.0 op.id.0 comer k comes_so w g at)

  adopted_keeps : (q : Planning) → IsPlanOf p (plan.Mend op) → op.verb ≡ verb.Adopt
      → IsAdopted op p.client p.recorded q.client q.recorded → q.next_id ≡ p.next_id → IsClient q.client × CanPlan q.client q.next_id
  adopted_keeps q planned named adopted next =
      let facts = adoption p op can planned named in
      let k = q.client.local.tree in
      let kept : op.remote ≡ Keep = ap (λ (o : Op). o.remote) facts.carried.is in
      let stays : op.synced ≡ Keep = ap (λ (o : Op). o.synced) facts.carried.is in
      let local : IsLocalAfter op.verb op l k = subst (λ v. IsLocalAfter v op l k) (sym named) adopted.tree in
      let after = mends_keep_form alike r l s p.next_id op r k s can planned.1.mend
      (record { remote = sym (ap (λ d. changed r op.id.0 d) kept); local = local; synced = sym (ap (λ d. changed s op.id.0 d) stays) }) in
      let sound = adopted_sound p.client.local op.other.0 op.id.0 (comer k facts adopted.tree) facts.carried.own k is.local (mend_sound p op can planned).id
      facts.carried.own_there (comes_so k facts adopted.tree) after.fit.local in (
        subst IsClient (sym adopted.client) (record {
          remote = is.remote;
          local = sound;
          synced = is.synced;
          flights = is.flights;
          numbers = subst (λ fs. AreNumbered fs (p.client.next_op + 1)) (sym planned.0) tt;
        }),
        subst (λ n. CanPlan q.client n) (sym next) (subst (λ (c : ClientState). CanPlan c p.next_id) (sym adopted.client)
            (record { fit = after.fit; remote = can.remote; local = adopted_below k facts adopted.tree; synced = can.synced })),
      )

  -- A MEND, by its effect and its verb
  at_once_keeps : (q : Planning) → IsPlanOf p (plan.Mend op) → op.effect ≡ effect.Nothing → (v : Verb) → op.verb ≡ v
      → IsMendedAtOnce v op p.client p.recorded q.client q.recorded → q.next_id ≡ p.next_id → IsClient q.client × CanPlan q.client q.next_id
  at_once_keeps q planned nothing verb.Adopt named mended next = adopted_keeps q planned named mended next
  at_once_keeps q planned nothing verb.Evict named mended next = evicted_keeps q planned nothing (λ e. let bad : verb.Evict ≡ verb.Adopt = sym named ∙ e in cc) mended next
  at_once_keeps q planned nothing verb.Split named mended next = evicted_keeps q planned nothing (λ e. let bad : verb.Split ≡ verb.Adopt = sym named ∙ e in cc) mended next
  at_once_keeps q planned nothing verb.Revive named mended next = evicted_keeps q planned nothing (λ e. let bad : verb.Revive ≡ verb.Adopt = sym named ∙ e in cc) mended next
  at_once_keeps q planned nothing verb.Unmove named mended next = evicted_keeps q planned nothing (λ e. let bad : verb.Unmove ≡ verb.Adopt = sym named ∙ e in cc) mended next
  at_once_keeps q planned nothing verb.Down named mended next = evicted_keeps q planned nothing (λ e. let bad : verb.Down ≡ verb.Adopt = sym named ∙ e in cc) mended next
  at_once_keeps q planned nothing verb.Up named mended next = evicted_keeps q planned nothing (λ e. let bad : verb.Up ≡ verb.Adopt = sym named ∙ e in cc) mended next
  at_once_keeps q planned nothing verb.CutDown named mended next = evicted_keeps q planned nothing (λ e. let bad : verb.CutDown ≡ verb.Adopt = sym named ∙ e in cc) mended next
  at_once_keeps q planned nothing verb.CutUp named mended next = evicted_keeps q planned nothing (λ e. let bad : verb.CutUp ≡ verb.Adopt = sym named ∙ e in cc) mended next
  at_once_keeps q planned nothing verb.Forget named mended next = evicted_keeps q planned nothing (λ e. let bad : verb.Forget ≡ verb.Adopt = sym named ∙ e in cc) mended next

  mend_keeps : (q : Planning) → IsPlanOf p (plan.Mend op) → (v : Effect) → op.effect ≡ v → MendGoes v op p q → IsClient q.client × CanPlan q.client q.next_id
  mend_keeps q planned effect.Nothing named goes = at_once_keeps q planned named op.verb refl goes.0 goes.1
  mend_keeps q planned effect.Disk named goes = flies_keeps q planned goes
  mend_keeps q planned effect.Commit named goes = flies_keeps q planned goes

pub plans_keep : PlansKeepClients
plans_keep p q answer.Empty is can it = subst (λ (t : Planning). IsClient t.client × CanPlan t.client t.next_id) (sym it.1) (is, can)
plans_keep p q (answer.Busy k) is can it = subst (λ (t : Planning). IsClient t.client × CanPlan t.client t.next_id) (sym it.2) (is, can)
plans_keep p q (answer.Booked shown) is can it = booked_keeps p it.op is can q it.plan it.noted it.next_id
plans_keep p q (answer.Mend shown) is can it = mend_keeps p it.op is can q it.plan it.op.effect refl it.goes
plans_keep p q (answer.Batch shown) is can it = (
  subst IsClient (sym it.client) ((steps_keep p.client is).fly it.ops (batch_may p it.ops can it.plan)),
  subst (λ n. CanPlan q.client n) (sym it.next_id) (subst (λ (c : ClientState). CanPlan c p.next_id) (sym it.client) can),
)
