-- A plan keeps a member: what flies can be carried out, and all that an operation has is known.
use Rattle.std.specs.Prelude.{All, Any}
use Rattle.std.proofs.Common.{◌≡◌, ◌≢◌, ◌<◌, ◌+◌, ℕ, List, [], ◌∷◌, map, Option, Some, None, refl, sym, ◌∙◌, ap, subst, inl, inr, arith}
use Rattle.std.specs.FinMap.{get}
use Rattle.nuc_base.specs.Changes.{FitsChange, IsLegal}
use Rattle.nuc_base.specs.Trees.{Nodes}
use Rattle.nuc_base.specs.declared.change.Change.{Change}
use Rattle.nuc_base.specs.declared.change.Change.TheVariants.{Keep, Put, Cut}
use Rattle.nuc_base.specs.declared.node.Kind.{Kind}
use Rattle.nuc_base.specs.declared.node.Node.{Node}
use Rattle.nuc_base.proofs.Came.{Came, came_from}
use Rattle.nuc_base.proofs.Came.Came.{renamed, stood, child}
use Rattle.nuc_class.specs.Due.{FitsOp}
use Rattle.nuc_class.specs.declared.op.Effect.{Effect}
use Rattle.nuc_class.specs.declared.op.Effect.TheVariants as effect
use Rattle.nuc_class.specs.declared.op.Op.{Op}
use Rattle.nuc_class.specs.declared.op.Verb.{Verb}
use Rattle.nuc_class.specs.declared.op.Verb.TheVariants as verb
use Rattle.nuc_conflict.specs.After.{ComesFor}
use Rattle.nuc_edits.specs.Edits.{IsNext, Recorded, WasPut, same_hash}
use Rattle.nuc_flights.specs.Flights.{Flight, as_planned}
use Rattle.nuc_flights.specs.declared.taken.Taken.TheVariants as came
use Rattle.nuc_folder.specs.declared.outcome.Outcome.TheVariants as outcome
use Rattle.nuc_plan.specs.Laws.{IsDueOutside}
use Rattle.nuc_plan.proofs.Cases.{each_is_due}
use Rattle.nuc_plan.specs.declared.plans.Plan.TheVariants as plan
use Rattle.nuc_replica.specs.Following.{IsAt}
use Rattle.nuc_replica.specs.Remote.{HasRevision, RemoteState, or_zero}
use Rattle.nuc_server.specs.Judge.{FitsValue, IsLiveBase}
use Rattle.nuc_server.specs.WebEdits.{WebState}
use Rattle.nuc_step.specs.Client.{ClientState}
use Rattle.nuc_step.specs.Holdings.{EntryBrings, Holds, IsOf, OpHolds, local_id}
use Rattle.nuc_step.specs.Holdings.Holds.{remote as in_remote, local as in_local, synced as in_synced, ahead as in_ahead, flight as in_flight}
use Rattle.nuc_step.specs.Holdings.OpHolds.{local as puts_local}
use Rattle.nuc_step.specs.Planning.{CanPlan, IsAdopted, IsBooked, IsLaunched, IsMendedAtOnce, IsNoted, IsPlanOf, MendFlies, MendGoes, PlanAnswers, Planning, next_after}
use Rattle.nuc_step.specs.Sound.{IsClient, MayFly}
use Rattle.nuc_step.specs.Steps.{after_fly, base_of, is_split, landed, numbered}
use Rattle.nuc_step.specs.declared.answers.Planned.{Planned}
use Rattle.nuc_step.specs.declared.answers.Planned.TheVariants as answer
use Rattle.nuc_step.proofs.Bringing.{landed_brings, steps_bring_nothing_else}
use Rattle.nuc_step.proofs.Fitting.{plans_keep}
use Rattle.nuc_step.proofs.Notes.{Facts, batch_may, may_fly, mend_facts, mend_sound}
use Rattle.nuc_world.specs.Form.{AreGiven, CanFly, IsKnown, IsMember, IsShared, IsStageBelow}
use Rattle.nuc_world.specs.Starts.{with_client}
use Rattle.nuc_world.specs.State.{Turn}
use Rattle.nuc_world.specs.Step.{Plans, planning_of, with_planning}
use Rattle.nuc_world.specs.Takes.{committed}
use Rattle.nuc_world.proofs.Dones.{given_after, given_moved}
use Rattle.nuc_world.proofs.Entered.{no_entry_later, no_entry_passes, with_kind, with_kind_below, with_kind_own}
use Rattle.nuc_world.proofs.Grown.{Grows, Turned, known_grown}
use Rattle.nuc_world.proofs.Items.{all_append, all_first, all_front, all_map, all_none, all_rest, any_of}
use Rattle.nuc_world.proofs.Mended.{mend_legal, mend_wishes, split_wishes, wishes_grown}
use Rattle.nuc_world.proofs.Quiet.{mark_turns}
use Rattle.nuc_world.proofs.Ready.{member_can_plan}
use Rattle.nuc_world.proofs.Wished.{OfChange, OfValue, Wishes, operation_not_adopt, operation_wishes}

-- WHAT FLIES
pub record Flies (s : WebState) (kinds : ℕ → Kind) (c : ClientState) (op : Op) : Type 0 where
  pub may : MayFly op
  pub wishes : Wishes s kinds op
  pub works : op.effect ≢ effect.Nothing
  pub two : op.verb ≢ verb.Adopt
  pub legal : IsLegal c.remote.tree op.id.0 op.remote

rev_some : (n : Node) (o : Option ℕ) (cursor : ℕ) → HasRevision (Some n) o cursor → 0 < or_zero o
rev_some n None cursor has = absurd has
rev_some n (Some rev) cursor has = has.0

module _ (s : WebState) (kinds : ℕ → Kind) (c : ClientState) (client : IsClient c) where
  fits_value : (op : Op) (ch : Change) → op.remote ≡ ch → FitsOp op → FitsValue (committed ch)
  fits_value op Keep is fits = tt
  fits_value op (Put n) is fits = subst FitsChange is fits.remote
  fits_value op Cut is fits = tt

  live : (op : Op) (ch : Change) → op.remote ≡ ch → Flies s kinds c op → op.effect ≡ effect.Commit → IsLiveBase (committed ch) (base_of op.effect c.remote op.id.0)
  live op Keep is flies commits = absurd (flies.wishes.writes commits is)
  live op (Put n) is flies commits = tt
  live op Cut is flies commits =
      let cut = subst (IsLegal c.remote.tree op.id.0) is flies.legal in
      let there = cut.there in
      let has = subst (λ o. HasRevision o (get c.remote.revisions op.id.0) c.remote.cursor) there.1 (client.remote.revisions op.id.0) in
      subst (λ e. 0 < base_of e c.remote op.id.0) (sym commits) (rev_some there.0 (get c.remote.revisions op.id.0) c.remote.cursor has)

  can_fly : (op : Op) → Flies s kinds c op → (n : ℕ) → CanFly (record op { number = n; base = base_of op.effect c.remote op.id.0 })
  can_fly op flies n = record {
    commit = λ commits. record { id = flies.may.id; fits = fits_value op op.remote refl flies.may.fits; live = live op op.remote refl flies commits };
    works = flies.works;
    two = flies.two;
  }

  numbered_fly : (n : ℕ) (ops : List Op) → All (Flies s kinds c) ops → All (λ f. CanFly f.op) (map as_planned (numbered n c.remote ops))
  numbered_fly n [] all = all_none (λ (f : Flight). CanFly f.op)
  numbered_fly n (op ∷ ops) all = all_front (λ (f : Flight). CanFly f.op) _ _ (can_fly op (all_first (Flies s kinds c) op ops all) n)
      (numbered_fly (n + 1) ops (all_rest (Flies s kinds c) op ops all))

  numbered_below : (next n : ℕ) (ops : List Op) → All (λ f. IsStageBelow next f.stage) (map as_planned (numbered n c.remote ops))
  numbered_below next n [] = all_none (λ (f : Flight). IsStageBelow next f.stage)
  numbered_below next n (op ∷ ops) = all_front (λ (f : Flight). IsStageBelow next f.stage) _ _ tt (numbered_below next (n + 1) ops)

-- ONE TURN
module _ (t : Turn) (kinds : ℕ → Kind) (shared : IsShared t.shared kinds) (member : IsMember t.shared kinds t.member) where
  abbrev Client : ClientState
  Client = t.member.client

  abbrev Now : Planning → WebState
  Now q = (with_planning q t).shared

  of_remote : (x : ℕ) → OfValue t.shared kinds x (get Client.remote.tree x)
  of_remote x k v is = member.holds x k v (in_remote is)

  of_local : (x : ℕ) → OfValue t.shared kinds x (get Client.local.tree x)
  of_local x k v is = member.holds x k v (in_local is)

  of_synced : (x : ℕ) → OfValue t.shared kinds x (get Client.synced x)
  of_synced x k v is = member.holds x k v (in_synced is)

  can_plan : CanPlan Client t.shared.ids.next_id
  can_plan = member_can_plan t.shared kinds t.member member

  -- what must hold of the client after a plan, beside that it is one
  record After (q : Planning) : Type 0 where
    later : ℕ → Kind
    grows : Grows t.shared (Now q) kinds later
    edits : q.recorded.edits ≡ t.shared.edits.edits
    remote : q.client.remote ≡ Client.remote
    holds : (x : ℕ) (k : Kind) (v : ℕ) → Holds q.client x k v → IsKnown (Now q) later x k v
    flights : All (λ f. CanFly f.op) q.client.flights
    keys : AreGiven q.client.local.keys t.member.folder.next
    made : All (λ f. IsStageBelow t.member.folder.next f.stage) q.client.flights

  planned_turn : (q : Planning) → After q → IsClient q.client → Turned t (with_planning q t) kinds
  planned_turn q after client =
      let next = subst (IsNext t.shared.ids.next_ver) (sym after.edits) shared.next_ver in
      let its : IsMember (Now q) after.later (with_client q.client t.member) = record {
        client = client;
        at = subst (IsAt t.shared.entries) (sym after.remote) member.at;
        holds = after.holds;
        flights = after.flights;
        keys = after.keys;
        made = after.made;
        given = member.given;
      } in
      record {
        passes = no_entry_passes t.shared (Now q) kinds after.later shared after.grows refl next;
        member = subst (λ later. IsMember (Now q) later (with_client q.client t.member))
            (sym (no_entry_later t.shared (Now q) kinds after.later shared after.grows refl next)) its;
      }

  -- FLYING
  fly_after : (ops : List Op) (f : Recorded) (next : ℕ) (later : ℕ → Kind) → f ≡ t.shared.edits → let q : Planning = record { client = after_fly ops Client; recorded = f; next_id = next } in
      Grows t.shared (Now q) kinds later → All (Flies (Now q) later Client) ops → After q
  fly_after ops f next later same grows flies =
      let q : Planning = record { client = after_fly ops Client; recorded = f; next_id = next } in
      record {
        later = later;
        grows = grows;
        edits = ap (λ (r : Recorded). r.edits) same;
        remote = refl;
        holds = λ x k v held. elim ((steps_bring_nothing_else Client).fly ops x k v held) [
          | inl was ↦ known_grown t.shared (Now q) kinds later grows x k v (member.holds x k v was)
          | inr some ↦ any_of (OpHolds x k v) ops (IsKnown (Now q) later x k v)
              (all_map (Flies (Now q) later Client) (λ op. OpHolds x k v op → IsKnown (Now q) later x k v) (λ op its. its.wishes.known x k v) ops flies) some
        ];
        flights = all_append (λ (f : Flight). CanFly f.op) Client.flights _ member.flights (numbered_fly (Now q) later Client member.client Client.next_op ops flies);
        keys = member.keys;
        made = all_append (λ (f : Flight). IsStageBelow t.member.folder.next f.stage) Client.flights _ member.made
            (numbered_below (Now q) later Client member.client t.member.folder.next Client.next_op ops);
      }

  -- NOTED AT ONCE
  recounted : (c : ClientState) (changes next : ℕ) (x : ℕ) (k : Kind) (v : ℕ) → Holds (record c { changes = changes; next_op = next }) x k v → Holds c x k v
  recounted c changes next x k v (in_remote is) = in_remote is
  recounted c changes next x k v (in_local is) = in_local is
  recounted c changes next x k v (in_synced is) = in_synced is
  recounted c changes next x k v (in_ahead some) = in_ahead some
  recounted c changes next x k v (in_flight some) = in_flight some

  same_grows : (q : Planning) → q.recorded.edits ≡ t.shared.edits.edits → q.next_id ≡ t.shared.ids.next_id → Grows t.shared (Now q) kinds kinds
  same_grows q edits next = record {
    kind = λ x below. refl;
    below = omega (arith, next);
    put = λ v was. subst (λ es. WasPut es v) (sym edits) was;
  }

  note_after : (op : Op) (changes : ℕ) (f : Recorded) (next : ℕ) → f.edits ≡ t.shared.edits.edits → next ≡ t.shared.ids.next_id → Wishes t.shared kinds op
      → After (record { client = record (landed op (came.Folder outcome.Ok) Client) { changes = changes; next_op = Client.next_op + 1 }; recorded = f; next_id = next })
  note_after op changes f next edits same wishes =
      let q : Planning = record { client = record (landed op (came.Folder outcome.Ok) Client) { changes = changes; next_op = Client.next_op + 1 }; recorded = f; next_id = next } in
      let grows = same_grows q edits same in
      record {
        later = kinds;
        grows = grows;
        edits = edits;
        remote = refl;
        holds = λ x k v held. known_grown t.shared (Now q) kinds kinds grows x k v
            (elim (landed_brings x k v Client op (came.Folder outcome.Ok) (recounted (landed op (came.Folder outcome.Ok) Client) changes (Client.next_op + 1) x k v held)) [
              | inl was ↦ member.holds x k v was
              | inr mine ↦ wishes.known x k v mine
            ]);
        flights = member.flights;
        keys = given_after t.member.folder.next Client.local.keys member.keys op outcome.Ok tt;
        made = member.made;
      }

  -- of what it is made
  by_parts : (q : Planning) (c : ClientState) → q.client ≡ c → After (record q { client = c }) → After q
  by_parts q c same after = subst (λ d. After (record q { client = d })) (sym same) after

  noted : (op : Op) (q : Planning) → Wishes t.shared kinds op → IsNoted op Client t.shared.edits q.client q.recorded → q.next_id ≡ t.shared.ids.next_id → After q
  noted op q wishes is next = by_parts q _ is.client (note_after op q.client.changes q.recorded q.next_id (ap (λ (r : Recorded). r.edits) is.recorded) next wishes)

  -- TWO BECOME ONE
  renamed_known : (y x : ℕ) (ch : Change) (k : Nodes) → OfChange t.shared kinds x ch → ComesFor Client.local.tree y x ch k → (w : ℕ) → OfValue t.shared kinds w (get k w)
  renamed_known y x Keep k of comes w l v is = absurd comes
  renamed_known y x Cut k of comes w l v is = absurd comes
  renamed_known y x (Put node) k of comes w l v is = by (get k w) refl is
    where
      from : (g : Node) → Came Client.local.tree y x node w g → (g.kind ≡ l) × (g.ver.0 ≡ v) → IsKnown t.shared kinds w l v
      from g (renamed at same) is = subst (λ z. IsKnown t.shared kinds z l v) (sym at) (of l v (subst (λ (h : Node). (h.kind ≡ l) × (h.ver.0 ≡ v)) same is))
      from g (stood other apart there off) is = of_local w l v (subst (IsOf l v) (sym there) is)
      from g (child h other apart there below same) is = of_local w l v (subst (IsOf l v) (sym there) (subst (λ (h : Node). (h.kind ≡ l) × (h.ver.0 ≡ v)) same is))

      by : (o : Option Node) → get k w ≡ o → IsOf l v o → IsKnown t.shared kinds w l v
      by None there is = absurd is
      by (Some g) there is = from g (came_from Client.local.tree y x node k comes w g there) is

  adopted_holds : (op : Op) (c : ClientState) → op.verb ≡ verb.Adopt → Wishes t.shared kinds op → c.remote ≡ Client.remote → c.synced ≡ Client.synced → c.flights ≡ Client.flights
      → ComesFor Client.local.tree op.other.0 op.id.0 op.local c.local.tree → (x : ℕ) (k : Kind) (v : ℕ) → Holds c x k v → IsKnown t.shared kinds x k v
  adopted_holds op c is wishes remote synced flights comes x k v (in_remote at) = member.holds x k v (in_remote (subst (λ (r : RemoteState). IsOf k v (get r.tree x)) remote at))
  adopted_holds op c is wishes remote synced flights comes x k v (in_synced at) = member.holds x k v (in_synced (subst (λ m. IsOf k v (get m x)) synced at))
  adopted_holds op c is wishes remote synced flights comes x k v (in_ahead some) =
      member.holds x k v (in_ahead (subst (λ (r : RemoteState). Any (EntryBrings x k v) r.ahead) remote some))
  adopted_holds op c is wishes remote synced flights comes x k v (in_flight some) =
      member.holds x k v (in_flight (subst (Any (λ f. OpHolds x k v f.op)) flights some))
  adopted_holds op c is wishes remote synced flights comes x k v (in_local at) =
      renamed_known op.other.0 op.id.0 op.local c.local.tree
      (λ l w puts. wishes.known op.id.0 l w (puts_local (ap (λ b. local_id (is_split b) op) is) puts)) comes x k v at

  adopted : (op : Op) (q : Planning) → op.verb ≡ verb.Adopt → Wishes t.shared kinds op → IsAdopted op Client t.shared.edits q.client q.recorded → q.next_id ≡ t.shared.ids.next_id → After q
  adopted op q is wishes its next =
      let edits : q.recorded.edits ≡ t.shared.edits.edits = ap (λ (r : Recorded). r.edits) its.recorded in
      let grows = same_grows q edits next in
      let remote : q.client.remote ≡ Client.remote = ap (λ (c : ClientState). c.remote) its.client in
      let flights : q.client.flights ≡ Client.flights = ap (λ (c : ClientState). c.flights) its.client in
      record {
        later = kinds;
        grows = grows;
        edits = edits;
        remote = remote;
        holds = λ x k v held. known_grown t.shared (Now q) kinds kinds grows x k v
            (adopted_holds op q.client is wishes remote (ap (λ (c : ClientState). c.synced) its.client) flights its.tree x k v held);
        flights = subst (All (λ f. CanFly f.op)) (sym flights) member.flights;
        keys = subst (λ keys. AreGiven keys t.member.folder.next) (sym (ap (λ (c : ClientState). c.local.keys) its.client))
            (given_moved t.member.folder.next Client.local.keys member.keys op.other.0 op.id.0 (get Client.local.keys op.other.0) refl);
        made = subst (All (λ f. IsStageBelow t.member.folder.next f.stage)) (sym flights) member.made;
      }

  -- ALL OPERATIONS of a batch are due
  due_flies : (op : Op) (q : Planning) → MayFly op → IsDueOutside (same_hash t.shared.edits.edits) Client.remote.tree Client.local.tree Client.synced op
      → Grows t.shared (Now q) kinds kinds → Flies (Now q) kinds Client op
  due_flies op q may outside grows =
      let due = outside.due in
      record {
        may = may;
        wishes = wishes_grown t.shared (Now q) kinds kinds grows op
            (operation_wishes t.shared kinds (same_hash t.shared.edits.edits) due.wish op.id.0 _ _ _ op due.planned (of_remote op.id.0) (of_local op.id.0) (of_synced op.id.0));
        works = outside.outside;
        two = operation_not_adopt (same_hash t.shared.edits.edits) due.wish op.id.0 _ _ _ op due.planned;
        legal = due.legal.remote;
      }

  launched : (q : Planning) (shown : List Op) → IsLaunched (planning_of t) shown q → After q
  launched q shown is =
      let b : Planning = record { client = after_fly is.ops Client; recorded = q.recorded; next_id = q.next_id } in
      let grows : Grows t.shared (Now b) kinds kinds = same_grows b (ap (λ (r : Recorded). r.edits) is.recorded) is.next_id in
      let may = batch_may (planning_of t) is.ops can_plan is.plan in
      let due = (each_is_due (same_hash t.shared.edits.edits) Client.remote.tree Client.local.tree Client.synced t.shared.ids.next_id is.ops is.plan.1).0 in
      by_parts q (after_fly is.ops Client) is.client
      (fly_after is.ops q.recorded q.next_id kinds is.recorded grows (λ k d below. due_flies _ b (may k d below) (due k d below) grows))

  booked : (q : Planning) (shown : Op) → IsBooked (planning_of t) shown q → After q
  booked q shown is =
      let due = is.plan.1.step.due in
      noted is.op q
      (operation_wishes t.shared kinds (same_hash t.shared.edits.edits) due.wish is.op.id.0 _ _ _ is.op due.planned (of_remote is.op.id.0) (of_local is.op.id.0) (of_synced is.op.id.0))
      is.noted is.next_id

  -- A MEND
  module _ (q : Planning) (op : Op) (plan : IsPlanOf (planning_of t) (plan.Mend op)) where
    facts_by : (v : Verb) → op.verb ≡ v → Facts (planning_of t) op can_plan v
    facts_by v is = subst (Facts (planning_of t) op can_plan) is (mend_facts (planning_of t) op can_plan plan)

    whole_wishes : op.verb ≢ verb.Split → Wishes t.shared kinds op
    whole_wishes whole = mend_wishes t.shared kinds (same_hash t.shared.edits.edits) Client.remote.tree Client.local.tree Client.synced t.shared.ids.next_id op
        of_remote of_local of_synced op.verb whole (mend_facts (planning_of t) op can_plan plan)

    legal : IsLegal Client.remote.tree op.id.0 op.remote
    legal = mend_legal t.shared kinds (same_hash t.shared.edits.edits) Client.remote.tree Client.local.tree Client.synced t.shared.ids.next_id op
        of_remote of_local of_synced op.verb (mend_facts (planning_of t) op can_plan plan)

    may : MayFly op
    may = may_fly Client.local.tree Client.synced op (mend_sound (planning_of t) op can_plan plan)

    -- one without effect is no split
    not_split : op.effect ≡ effect.Nothing → op.verb ≢ verb.Split
    not_split nothing split = let facts = facts_by verb.Split split in
        absurd (let bad : effect.Disk ≡ effect.Nothing = sym (ap (λ (o : Op). o.effect) facts.carried.is) ∙ nothing in cc)

    at_once : (v : Verb) → op.verb ≡ v → op.effect ≡ effect.Nothing → IsMendedAtOnce v op Client t.shared.edits q.client q.recorded → q.next_id ≡ t.shared.ids.next_id → After q
    at_once verb.Adopt is nothing its next = adopted op q is (whole_wishes (not_split nothing)) its next
    at_once verb.Split is nothing its next = absurd (not_split nothing is)
    at_once verb.Down is nothing its next = noted op q (whole_wishes (not_split nothing)) its next
    at_once verb.Up is nothing its next = noted op q (whole_wishes (not_split nothing)) its next
    at_once verb.CutDown is nothing its next = noted op q (whole_wishes (not_split nothing)) its next
    at_once verb.CutUp is nothing its next = noted op q (whole_wishes (not_split nothing)) its next
    at_once verb.Forget is nothing its next = noted op q (whole_wishes (not_split nothing)) its next
    at_once verb.Unmove is nothing its next = noted op q (whole_wishes (not_split nothing)) its next
    at_once verb.Revive is nothing its next = noted op q (whole_wishes (not_split nothing)) its next
    at_once verb.Evict is nothing its next = noted op q (whole_wishes (not_split nothing)) its next

    not_adopted : op.effect ≢ effect.Nothing → op.verb ≢ verb.Adopt
    not_adopted works adopt = let facts = facts_by verb.Adopt adopt in works (ap (λ (o : Op). o.effect) facts.carried.is)

    Flown : Planning
    Flown = record { client = after_fly (op ∷ []) Client; recorded = q.recorded; next_id = q.next_id }

    one_flies : (later : ℕ → Kind) → op.effect ≢ effect.Nothing → Wishes (Now Flown) later op → All (Flies (Now Flown) later Client) (op ∷ [])
    one_flies later works wishes = all_front (Flies (Now Flown) later Client) op []
        (record { may = may; wishes = wishes; works = works; two = not_adopted works; legal = legal }) (all_none (Flies (Now Flown) later Client))

    flies_whole : op.effect ≢ effect.Nothing → op.verb ≢ verb.Split → MendFlies op (planning_of t) q → q.next_id ≡ t.shared.ids.next_id → After q
    unfolding Flown
    flies_whole works whole its next =
        let grows : Grows t.shared (Now Flown) kinds kinds = same_grows Flown (ap (λ (r : Recorded). r.edits) its.recorded) next in
        by_parts q (after_fly (op ∷ []) Client) its.client
        (fly_after (op ∷ []) q.recorded q.next_id kinds its.recorded grows
        (one_flies kinds works (wishes_grown t.shared (Now Flown) kinds kinds grows op (whole_wishes whole))))

    flies_split : op.effect ≢ effect.Nothing → op.verb ≡ verb.Split → MendFlies op (planning_of t) q → q.next_id ≡ t.shared.ids.next_id + 1 → After q
    unfolding Flown
    flies_split works split its next =
        let facts = facts_by verb.Split split in
        let kind : Kind = facts.carried.node.kind in
        let new = t.shared.ids.next_id in
        let later : ℕ → Kind = with_kind kinds new kind in
        let grows : Grows t.shared (Now Flown) kinds later = record {
          kind = with_kind_below kinds new kind;
          below = omega (arith, next);
          put = λ v was. subst (λ (r : Recorded). WasPut r.edits v) (sym its.recorded) was;
        } in
        by_parts q (after_fly (op ∷ []) Client) its.client
        (fly_after (op ∷ []) q.recorded q.next_id later its.recorded grows
        (one_flies later works
        (split_wishes t.shared kinds (same_hash t.shared.edits.edits) Client.remote.tree Client.local.tree Client.synced new op of_local of_synced facts (Now Flown) later grows
        (with_kind_own kinds new kind) (omega (arith, next)))))

    flies : (v : Verb) → op.verb ≡ v → op.effect ≢ effect.Nothing → MendFlies op (planning_of t) q → q.next_id ≡ next_after v t.shared.ids.next_id → After q
    flies verb.Split is works its next = flies_split works is its next
    flies verb.Adopt is works its next = absurd (not_adopted works is)
    flies verb.Down is works its next = flies_whole works (λ split. let bad : verb.Down ≡ verb.Split = sym is ∙ split in cc) its next
    flies verb.Up is works its next = flies_whole works (λ split. let bad : verb.Up ≡ verb.Split = sym is ∙ split in cc) its next
    flies verb.CutDown is works its next = flies_whole works (λ split. let bad : verb.CutDown ≡ verb.Split = sym is ∙ split in cc) its next
    flies verb.CutUp is works its next = flies_whole works (λ split. let bad : verb.CutUp ≡ verb.Split = sym is ∙ split in cc) its next
    flies verb.Forget is works its next = flies_whole works (λ split. let bad : verb.Forget ≡ verb.Split = sym is ∙ split in cc) its next
    flies verb.Unmove is works its next = flies_whole works (λ split. let bad : verb.Unmove ≡ verb.Split = sym is ∙ split in cc) its next
    flies verb.Revive is works its next = flies_whole works (λ split. let bad : verb.Revive ≡ verb.Split = sym is ∙ split in cc) its next
    flies verb.Evict is works its next = flies_whole works (λ split. let bad : verb.Evict ≡ verb.Split = sym is ∙ split in cc) its next

    mend_goes : (e : Effect) → op.effect ≡ e → MendGoes e op (planning_of t) q → After q
    mend_goes effect.Nothing is goes = at_once op.verb refl is goes.0 goes.1
    mend_goes effect.Disk is goes = flies op.verb refl (λ nothing. let bad : effect.Disk ≡ effect.Nothing = sym is ∙ nothing in cc) goes goes.next_id
    mend_goes effect.Commit is goes = flies op.verb refl (λ nothing. let bad : effect.Commit ≡ effect.Nothing = sym is ∙ nothing in cc) goes goes.next_id

  -- EVERY ANSWER
  changes_turn : (answer : Planned) (u : Turn) → PlanAnswers (planning_of t) answer (planning_of u) → u ≡ with_planning (planning_of u) t → After (planning_of u) → Turned t u kinds
  changes_turn answer u is now after = subst (λ (v : Turn). Turned t v kinds) (sym now)
      (planned_turn (planning_of u) after (plans_keep (planning_of t) (planning_of u) answer member.client can_plan is).0)

  stays_turn : (u : Turn) → planning_of u ≡ planning_of t → u ≡ with_planning (planning_of u) t → Turned t u kinds
  stays_turn u same now = mark_turns t u kinds shared member (now ∙ ap (λ q. with_planning q t) same)

  answers_turn : (answer : Planned) (u : Turn) → PlanAnswers (planning_of t) answer (planning_of u) → u ≡ with_planning (planning_of u) t → Turned t u kinds
  answers_turn answer.Empty u is now = stays_turn u is.1 now
  answers_turn (answer.Busy k) u is now = stays_turn u is.2 now
  answers_turn (answer.Booked shown) u is now = changes_turn (answer.Booked shown) u is now (booked (planning_of u) shown is)
  answers_turn (answer.Batch shown) u is now = changes_turn (answer.Batch shown) u is now (launched (planning_of u) shown is)
  answers_turn (answer.Mend shown) u is now = changes_turn (answer.Mend shown) u is now (mend_goes (planning_of u) is.op is.plan is.op.effect refl is.goes)

pub plan_turns : (answer : Planned) (t u : Turn) (kinds : ℕ → Kind) → IsShared t.shared kinds → IsMember t.shared kinds t.member → Plans answer t u → Turned t u kinds
plan_turns answer t u kinds shared member (is, now) = answers_turn t kinds shared member answer u is now
