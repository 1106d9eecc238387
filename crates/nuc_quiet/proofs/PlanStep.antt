-- A plan in a sync: what holds behind it.
use Rattle.std.proofs.Common.{◌≡◌, ◌≢◌, ◌<◌, ◌++◌, ℕ, Bool, false, List, [], ◌∷◌, length, map, refl, sym, ap, subst, ◌∙◌, inl, arith}
use Rattle.nuc_class.specs.declared.op.Effect.{Effect}
use Rattle.nuc_class.specs.declared.op.Effect.TheVariants as effect
use Rattle.nuc_class.specs.declared.op.Op.{Op}
use Rattle.nuc_class.specs.declared.op.Verb.{Verb}
use Rattle.nuc_class.specs.declared.op.Verb.TheVariants as verb
use Rattle.nuc_converge.specs.Alone.{IsIdlePlan}
use Rattle.nuc_converge.proofs.Exact.{each_plan_is_exact}
use Rattle.nuc_converge.proofs.GivesSome.{each_plan_gives_some}
use Rattle.nuc_edits.specs.Edits.{Recorded}
use Rattle.nuc_flights.specs.Flights.{Flight, as_planned}
use Rattle.nuc_log.specs.declared.event.Event.TheVariants as event
use Rattle.nuc_log.specs.declared.log.LogEntry.TheVariants as entry
use Rattle.nuc_log.specs.declared.reply.Reply.{Reply}
use Rattle.nuc_log.specs.declared.reply.Reply.TheVariants as reply
use Rattle.nuc_step.specs.Client.{ClientState}
use Rattle.nuc_step.specs.Planning.{IsMended, IsMendedAtOnce, MendFlies, MendGoes, PlanAnswers, Planning}
use Rattle.nuc_step.specs.Steps.{numbered}
use Rattle.nuc_step.specs.declared.answers.Planned.{Planned}
use Rattle.nuc_step.specs.declared.answers.Planned.TheVariants as plan
use Rattle.nuc_sync.specs.Tasks.{after_mend, in_order, more, next, numbers_of, plans}
use Rattle.nuc_world.specs.Marks.{IsQuiet}
use Rattle.nuc_world.specs.Parts.{turn_at}
use Rattle.nuc_world.specs.State.{MemberState}
use Rattle.nuc_world.specs.Step.{IsTurn, planning_of}
use Rattle.nuc_world.specs.World.{WorldData}
use Rattle.nuc_quiet.specs.Laws.{FolderMatches}
use Rattle.nuc_quiet.proofs.Holding.{AtPlan, Holds, marking}
use Rattle.nuc_quiet.proofs.Numbers.{Apart, Wait, all_wait, first_at_work, none_waits, numbered_apart}
use Rattle.nuc_quiet.proofs.Parts.{PlansGoWell}
use Rattle.nuc_quiet.proofs.Points.{IsSyncing, goes_on, in_sync, turned}

-- what takes place at once leaves what flies
mended_flights : (v : Verb) (op : Op) (c : ClientState) (e : Recorded) (d : ClientState) (f : Recorded) → IsMendedAtOnce v op c e d f → d.flights ≡ c.flights
mended_flights verb.Adopt op c e d f mended = ap (λ (x : ClientState). x.flights) mended.client
mended_flights v op c e d f noted = ap (λ (x : ClientState). x.flights) noted.client

some_fly : (ops : List Op) → 0 < length ops → map as_planned ops ≢ []
some_fly [] some = absurd (omega (arith, some))
some_fly (op ∷ ops) some = λ none. cc

-- a plan that went well
record PlansWell (c : ℕ) (answer : Planned) (w v : WorldData) (m : MemberState) : Type 0 where
  after : MemberState
  answers : PlanAnswers (planning_of (turn_at w.now.shared m)) answer (planning_of (turn_at v.now.shared after))
  syncing : IsIdlePlan answer → IsSyncing c v after
  matches : FolderMatches v.now.shared after

-- WHAT WAITS IS NEXT
module _ (c : ℕ) (b a : Bool) (v : WorldData) (k : MemberState) (syncing : IsSyncing c v k) (matches : FolderMatches v.now.shared k) where
  pub first_starts : (n : ℕ) (left : List ℕ) (applied : Bool) → Wait (n ∷ left) k.client.flights → Holds c b v (next c a (n ∷ left) applied ++ marking c)
  first_starts n left applied wait = (
    refl,
    refl,
    record {
      member = k;
      syncing = syncing;
      matches = matches;
      planned = wait.planned n (inl refl);
      wait = first_at_work n left k.client.flights wait;
    },
  )

  some_start : (ns : List ℕ) → Wait ns k.client.flights → k.client.flights ≢ [] → Holds c b v (next c a ns false ++ marking c)
  some_start [] wait some = absurd (some (none_waits k.client.flights wait))
  some_start (n ∷ left) wait some = first_starts n left false wait

  pub plans_again : k.client.flights ≡ [] → AtPlan c v
  plans_again landed = record { member = k; syncing = syncing; matches = matches; landed = landed }

module _ (plans_well : PlansGoWell) (c : ℕ) (b a : Bool) (w v : WorldData) (at : AtPlan c w) where
  abbrev m : MemberState
  m = at.member

  module _ (answer : Planned) (step : IsTurn w.log (event.Plan c) (reply.Plan answer) w.now v.now)
      (log : v.log ≡ w.log ++ entry.Stepped (event.Plan c) (reply.Plan answer) ∷ []) where
    well : PlansWell c answer w v m
    well =
        let t = turned w.log (event.Plan c) (reply.Plan answer) w.now v.now m step at.syncing.was in
        let so = plans_well w.log w.now v.now c m t.after (reply.Plan answer) (in_sync c w m at.syncing) at.matches step t.now in
        record {
          after = t.after;
          answers = t.does.0;
          syncing = λ idle. goes_on c w v m t.after (event.Plan c) (reply.Plan answer) at.syncing step log (refl, idle) t.now so.0;
          matches = so.1;
        }

  -- what flies where nothing did
  flies_now : (k : MemberState) (fs : List Flight) → k.client.flights ≡ m.client.flights ++ fs → k.client.flights ≡ fs
  flies_now k fs is = is ∙ ap (λ gs. gs ++ fs) at.landed

  -- the operations that are shown wait
  shown_wait : (k : MemberState) (shown ops : List Op) → shown ≡ numbered m.client.next_op m.client.remote ops
      → k.client.flights ≡ m.client.flights ++ map as_planned (numbered m.client.next_op m.client.remote ops) → (k.client.flights ≡ map as_planned shown)
      × ((d : Bool) → Wait (in_order d shown) k.client.flights)
  shown_wait k shown ops is flights =
      let now : k.client.flights ≡ map as_planned shown =
      flies_now k (map as_planned (numbered m.client.next_op m.client.remote ops)) flights ∙ ap (λ (os : List Op). map as_planned os) (sym is) in
      let apart : Apart (numbers_of shown) = subst (λ (os : List Op). Apart (numbers_of os)) (sym is) (numbered_apart m.client.next_op m.client.remote ops) in
      (now, λ d. subst (Wait (in_order d shown)) (sym now) (all_wait d shown apart))

  -- a mend that flies
  mend_flies : (shown : Op) (so : PlansWell c (plan.Mend shown) w v m)
      (mended : IsMended (planning_of (turn_at w.now.shared m)) shown (planning_of (turn_at v.now.shared so.after)))
      → MendFlies mended.op (planning_of (turn_at w.now.shared m)) (planning_of (turn_at v.now.shared so.after))
      → Holds c b v (next c a (shown.number ∷ []) false ++ marking c)
  mend_flies shown so mended flies =
      let (now, wait) = shown_wait so.after (shown ∷ []) (mended.op ∷ []) (ap (λ (o : Op). o ∷ []) mended.is)
      (ap (λ (x : ClientState). x.flights) flies.client) in
      first_starts c b a v so.after (so.syncing tt) so.matches shown.number [] false (wait false)

  by_effect : (shown : Op) (so : PlansWell c (plan.Mend shown) w v m)
      → IsMended (planning_of (turn_at w.now.shared m)) shown (planning_of (turn_at v.now.shared so.after)) → (x : Effect) → shown.effect ≡ x
      → Holds c b v (after_mend c a shown x ++ marking c)
  by_effect shown so mended x is = by_goes x
      (subst (λ y. MendGoes y mended.op (planning_of (turn_at w.now.shared m)) (planning_of (turn_at v.now.shared so.after)))
      (sym (ap (λ (o : Op). o.effect) mended.is) ∙ is) mended.goes)
    where
      by_goes : (x : Effect) → MendGoes x mended.op (planning_of (turn_at w.now.shared m)) (planning_of (turn_at v.now.shared so.after))
          → Holds c b v (after_mend c a shown x ++ marking c)
      by_goes effect.Nothing goes = (
        refl,
        refl,
        plans_again c b a v so.after (so.syncing tt) so.matches
            (mended_flights mended.op.verb mended.op m.client w.now.shared.edits so.after.client v.now.shared.edits goes.0 ∙ at.landed),
      )
      by_goes effect.Disk goes = mend_flies shown so mended goes
      by_goes effect.Commit goes = mend_flies shown so mended goes

  by_answer : (answer : Planned) → IsTurn w.log (event.Plan c) (reply.Plan answer) w.now v.now
      → v.log ≡ w.log ++ entry.Stepped (event.Plan c) (reply.Plan answer) ∷ []
      → Holds c b v (more (plans c a) (reply.Plan answer) ++ marking c)
  by_answer plan.Empty step log =
      let so = well plan.Empty step log in
      let same : so.after.client ≡ m.client = ap (λ (x : Planning). x.client) so.answers.1 in
      let quiet = (each_plan_is_exact w.log w.now v.now c plan.Empty m step at.syncing.was).0 refl in
      (refl, refl, record { member = so.after; was = (so.syncing tt).was; quiet = subst IsQuiet (sym same) quiet; matches = so.matches })
  by_answer (plan.Booked op) step log =
      let so = well (plan.Booked op) step log in
      let same : so.after.client.flights ≡ m.client.flights = ap (λ (x : ClientState). x.flights) so.answers.noted.client in
      (refl, refl, plans_again c b a v so.after (so.syncing tt) so.matches (same ∙ at.landed))
  by_answer (plan.Batch shown) step log =
      let so = well (plan.Batch shown) step log in
      let launched = so.answers in
      let (now, wait) = shown_wait so.after shown launched.ops launched.is (ap (λ (x : ClientState). x.flights) launched.client) in
      let some : 0 < length shown = each_plan_gives_some w.log w.now v.now c (plan.Batch shown) step (refl, tt) (λ none. cc) in
      some_start c b a v so.after (so.syncing tt) so.matches (in_order a shown) (wait a) (subst (λ (fs : List Flight). fs ≢ []) (sym now) (some_fly shown some))
  by_answer (plan.Mend shown) step log = let so = well (plan.Mend shown) step log in by_effect shown so so.answers shown.effect refl
  by_answer (plan.Busy k) step log =
      let so = (well (plan.Busy k) step log).answers in
      let none : length m.client.flights ≡ 0 = ap (λ (fs : List Flight). length fs) at.landed in
      absurd (omega (arith, so.0, so.1, none))

  pub plan_step : (r : Reply) → IsTurn w.log (event.Plan c) r w.now v.now → v.log ≡ w.log ++ entry.Stepped (event.Plan c) r ∷ []
      → Holds c b v (more (plans c a) r ++ marking c)
  plan_step (reply.Plan answer) step log = by_answer answer step log
  plan_step r step log = absurd (step.does)
