-- A plan loses nothing.
use Rattle.std.specs.Prelude.{All, Any, not, option_map}
use Rattle.std.proofs.Common.{◌≡◌, ◌≢◌, ◌⊎◌, ◌<◌, ◌+◌, ◌==◌, ◌&&◌, ◌||◌, ◌++◌, ℕ, Bool, true, false, cond, List, [], ◌∷◌, map, Option, Some, None, refl, sym, ◌∙◌, ap, subst, inl, inr, arith}
use Rattle.std.proofs.lemmas.Bool.{eqb-true}
use Rattle.std.proofs.lemmas.List.{append-nil}
use Rattle.std.specs.FinMap.{empty, get}
use Rattle.nuc_base.specs.Renamed.{IsRenamed, child_renamed, with_parent}
use Rattle.nuc_base.specs.declared.change.Change.{Change}
use Rattle.nuc_base.specs.declared.change.Change.TheVariants.{Keep, Put, Cut}
use Rattle.nuc_base.specs.declared.node.Kind.{Kind}
use Rattle.nuc_base.specs.declared.node.Kind.TheVariants.{Folder, File}
use Rattle.nuc_base.specs.declared.node.Node.{Node}
use Rattle.nuc_base.proofs.Maps.{same_or_not}
use Rattle.nuc_class.specs.Due.{IsDue}
use Rattle.nuc_class.specs.Split.{same_content}
use Rattle.nuc_class.specs.declared.op.Effect.{Effect}
use Rattle.nuc_class.specs.declared.op.Effect.TheVariants as effect
use Rattle.nuc_class.specs.declared.op.Op.{Op}
use Rattle.nuc_class.specs.declared.op.Verb.{Verb}
use Rattle.nuc_class.specs.declared.op.Verb.TheVariants as verb
use Rattle.nuc_conflict.specs.After.{ComesFor}
use Rattle.nuc_conflict.specs.Facts.{AdoptionFacts}
use Rattle.nuc_conflict.specs.Remedies.{IsAlike}
use Rattle.nuc_edits.specs.Edits.{Recorded, same_hash}
use Rattle.nuc_edits.specs.declared.edit.Adoption.{Adoption}
use Rattle.nuc_flights.specs.Flights.{as_planned}
use Rattle.nuc_folder.specs.declared.outcome.Outcome.TheVariants as outcome
use Rattle.nuc_plan.proofs.Cases.{each_is_due}
use Rattle.nuc_plan.specs.declared.plans.Plan.TheVariants as plan
use Rattle.nuc_replica.specs.Following.{IsAt}
use Rattle.nuc_server.specs.Versions.{HasVersion}
use Rattle.nuc_server.specs.WebEdits.{WebState}
use Rattle.nuc_step.specs.Client.{ClientState}
use Rattle.nuc_step.specs.Planning.{CanNote, CanPlan, IsAdopted, IsBooked, IsLaunched, IsMendedAtOnce, IsNoted, IsPlanOf, MendFlies, MendGoes, PlanAnswers, Planning}
use Rattle.nuc_step.specs.Steps.{adopted_by, after_fly, base_of, is_split, numbered}
use Rattle.nuc_step.specs.declared.answers.Planned.{Planned}
use Rattle.nuc_step.specs.declared.answers.Planned.TheVariants as answer
use Rattle.nuc_step.proofs.Notes.{adoption, book_can, mend_can, mend_facts}
use Rattle.nuc_world.specs.State.{Turn}
use Rattle.nuc_world.specs.Step.{Plans, planning_of, with_planning}
use Rattle.nuc_world.proofs.AccountedForm.{AreAlone, Comes, Fares, Fate, Further, GoneBy, Has, IsClear, IsFine, IsFineOp, IsKeptJournal, IsVersion, IsWhole, Lands, Replaces, has_version, version_at}
use Rattle.nuc_world.proofs.AccountedForm.Fate.{stays, gone, adopts}
use Rattle.nuc_world.proofs.AccountedGrown.{any_behind, any_one, clear_grown, further_by, or_gone}
use Rattle.nuc_world.proofs.AccountedJournal.{replaces_map}
use Rattle.nuc_world.proofs.AccountedLands.{CanLandSo, Landed, landed_clear, landed_further, landed_held}
use Rattle.nuc_world.proofs.AccountedQuiet.{clear_flown, fares_same}
use Rattle.nuc_world.proofs.AccountedWatched.{no_version}
use Rattle.nuc_world.proofs.AccountedWishes.{IsFinePlan, IsWellPlanned, mend_plan, well_planned}
use Rattle.nuc_world.proofs.Items.{all_first, all_front, all_none, all_rest}

-- WHAT FLIES, with its number and its base
module _ (s : WebState) (c : ClientState) (at : IsAt s.entries c.remote) where
  abbrev Flown : Op → Type 0
  Flown op = IsFinePlan s c.remote.tree c.local.tree op op.effect × (op.effect ≢ effect.Nothing)

  fate_same : (op : Op) (n : ℕ) {v : ℕ} → Fate s.edits op v → Fate s.edits (record op { number = n; base = base_of op.effect c.remote op.id.0 }) v
  fate_same op n (stays is) = stays is
  fate_same op n (gone is) = gone is
  fate_same op n (adopts some) = adopts some

  fine_by : (op : Op) (n : ℕ) (e : Effect) → op.effect ≡ e → IsFinePlan s c.remote.tree c.local.tree op e → e ≢ effect.Nothing
      → IsFineOp s c (record op { number = n; base = base_of op.effect c.remote op.id.0 }) e
  fine_by op n effect.Disk is fine works = record { fate = λ v some old. fate_same op n (fine.fate v some old); both = fine.both; remote = fine.remote }
  fine_by op n effect.Nothing is fine works = absurd (works refl)
  fine_by op n effect.Commit is fine works = record {
    from = c.remote.cursor;
    within = let most = at.within in omega (arith, most);
    base = ap (λ e. base_of e c.remote op.id.0) is ∙ at.revisions op.id.0;
    replaces = λ v some has. fine.replaces v some (subst (λ m. Has m op.id.0 v) (sym at.tree) has);
    local = fine.local;
    synced = fine.synced;
  }

  flight_fine : (op : Op) (n : ℕ) → Flown op → IsFine s c (as_planned (record op { number = n; base = base_of op.effect c.remote op.id.0 }))
  flight_fine op n (fine, works) = record { op = fine_by op n op.effect refl fine works; stage = tt }

  numbered_fine : (n : ℕ) (ops : List Op) → All Flown ops → All (IsFine s c) (map as_planned (numbered n c.remote ops))
  numbered_fine n [] all = all_none (IsFine s c)
  numbered_fine n (op ∷ ops) all = all_front (IsFine s c) _ _ (flight_fine op n (all_first Flown op ops all)) (numbered_fine (n + 1) ops (all_rest Flown op ops all))

  whole_flights : (n : ℕ) (ops : List Op) → All (λ op. is_split op.verb ≡ false) ops → All IsWhole (map as_planned (numbered n c.remote ops))
  whole_flights n [] all = all_none IsWhole
  whole_flights n (op ∷ ops) all = all_front IsWhole _ _ (all_first (λ (o : Op). is_split o.verb ≡ false) op ops all)
      (whole_flights (n + 1) ops (all_rest (λ (o : Op). is_split o.verb ≡ false) op ops all))

  -- where nothing flew
  fly_clear : (ops : List Op) → c.flights ≡ [] → All Flown ops → AreAlone (map as_planned (numbered c.next_op c.remote ops)) → IsClear s c → IsClear s (after_fly ops c)
  fly_clear ops none all alone clear =
      let new = map as_planned (numbered c.next_op c.remote ops) in
      let same : (after_fly ops c).flights ≡ new = ap (λ fs. fs ++ new) none in
      clear_flown s c (after_fly ops c) refl refl refl (subst AreAlone (sym same) alone)
      (subst (All (IsFine s c)) (sym same) (numbered_fine c.next_op ops all)) clear

-- ONE TURN
module _ (t u : Turn) (journal : IsKeptJournal t.shared) (at : IsAt t.shared.entries t.member.client.remote) (can : CanPlan t.member.client t.shared.ids.next_id)
    (clear : IsClear t.shared t.member.client) (now : u ≡ with_planning (planning_of u) t) where
  abbrev S : WebState
  S = t.shared

  abbrev C : ClientState
  C = t.member.client

  abbrev P : Planning
  P = planning_of t

  abbrev Q : Planning
  Q = planning_of u

  entries_same : u.shared.entries ≡ t.shared.entries
  entries_same = ap (λ (v : Turn). v.shared.entries) now

  -- NOTHING RECORDED, and Local as it was
  flies_so : (d : ClientState) → u.member.client ≡ d → u.shared.edits ≡ t.shared.edits → d.local.tree ≡ C.local.tree → IsClear S d → Fares t u
  flies_so d is edits local flown =
      let further = further_by S u.shared [] [] [] (ap (λ (r : Recorded). r.edits) edits ∙ sym (append-nil S.edits.edits))
      (ap (λ (r : Recorded). r.adoptions) edits ∙ sym (append-nil S.edits.adoptions)) (entries_same ∙ sym (append-nil S.entries)) in
      record {
        further = further;
        local = λ v some has. inl (subst (λ (e : ClientState). HasVersion e.local.tree v) (sym is) (subst (λ m. HasVersion m v) (sym local) has));
        new = [];
        recorded = ap (λ (r : Recorded). r.edits) edits ∙ sym (append-nil S.edits.edits);
        comes = all_none (Comes u.shared u.member.client.local.tree);
        journal = subst (λ es. Replaces (GoneBy u.shared.edits) empty es) (sym entries_same)
            (replaces_map (GoneBy S.edits) (GoneBy u.shared.edits) further.gone S.entries empty journal);
        clear = subst (IsClear u.shared) (sym is) (clear_grown S d u.shared further flown);
      }

  -- NOTED at once
  noted_fares : (op : Op) → CanNote C op → Lands S C.remote.tree op → IsNoted op C S.edits u.member.client u.shared.edits → Fares t u
  noted_fares op note lands noted =
      let its : Landed S C op outcome.Ok u.shared u.member.client = record {
        edits = noted.recorded;
        entries = entries_same;
        remote = ap (λ (c : ClientState). c.remote.tree) noted.client;
        local = ap (λ (c : ClientState). c.local.tree) noted.client;
        synced = ap (λ (c : ClientState). c.synced) noted.client;
        flights = ap (λ (c : ClientState). c.flights) noted.client;
      } in
      let may : CanLandSo S C op = record {
        lands = lands;
        old_local = note.local.old;
        new = note.local.other;
        old_synced = note.synced.old;
        other = note.may.other;
        alone = λ split. absurd (let one = note.one in let bad : true ≡ false = sym split ∙ one in cc);
      } in
      let further = landed_further S C op outcome.Ok u.shared u.member.client its may clear in
      record {
        further = further;
        local = landed_held S C op outcome.Ok u.shared u.member.client its may clear;
        new = [];
        recorded = ap (λ (r : Recorded). r.edits) noted.recorded ∙ sym (append-nil S.edits.edits);
        comes = all_none (Comes u.shared u.member.client.local.tree);
        journal = subst (λ es. Replaces (GoneBy u.shared.edits) empty es) (sym entries_same)
            (replaces_map (GoneBy S.edits) (GoneBy u.shared.edits) further.gone S.entries empty journal);
        clear = landed_clear S C op outcome.Ok u.shared u.member.client its may clear;
      }

  -- TWO BECOME ONE
  module _ (op : Op) (facts : AdoptionFacts (same_hash S.edits.edits) C.remote.tree C.local.tree C.synced op) (none : C.flights ≡ [])
      (its : IsAdopted op C S.edits u.member.client u.shared.edits) where
    abbrev New : Node
    New = record facts.carried.node { bit = facts.carried.own.bit }

    puts : op.local ≡ Put New
    puts = ap (λ (o : Op). o.local) facts.carried.is

    renamed_by : (ch : Change) → ch ≡ Put New → ComesFor C.local.tree op.other.0 op.id.0 ch u.member.client.local.tree → IsRenamed C.local.tree op.other.0 op.id.0 New u.member.client.local.tree
    renamed_by Keep is comes = absurd comes
    renamed_by Cut is comes = absurd comes
    renamed_by (Put n) is comes = let same : n ≡ New = cc in subst (λ (k : Node). IsRenamed C.local.tree op.other.0 op.id.0 k u.member.client.local.tree) same comes

    renamed : IsRenamed C.local.tree op.other.0 op.id.0 New u.member.client.local.tree
    renamed = renamed_by op.local puts its.tree

    further : Further S u.shared
    further = further_by S u.shared [] (adopted_by (same_hash S.edits.edits) (get C.local.tree op.other.0) op.local) []
        (ap (λ (r : Recorded). r.edits) its.recorded ∙ sym (append-nil S.edits.edits)) (ap (λ (r : Recorded). r.adoptions) its.recorded)
        (entries_same ∙ sym (append-nil S.entries))

    child_version : (n : Node) (v : ℕ) (b : Bool) → n.ver.0 ≡ v → IsVersion v (Some (cond b (with_parent op.id.0 n) n))
    child_version n v true ver = ver
    child_version n v false ver = ver

    mapped : (o : Option Node) (v : ℕ) → IsVersion v o → IsVersion v (option_map (child_renamed op.other.0 op.id.0) o)
    mapped None v is = is
    mapped (Some n) v is = child_version n v (n.place.parent.0 == op.other.0) is

    others : (x v : ℕ) → ¬ (x ≡ op.id.0) → ¬ (x ≡ op.other.0) → Has C.local.tree x v → Has u.member.client.local.tree x v
    others x v apart off has = subst (IsVersion v) (sym (renamed.others x apart off)) (mapped (get C.local.tree x) v has)

    new_has : (v : ℕ) → facts.carried.node.ver.0 ≡ v → Has u.member.client.local.tree op.id.0 v
    new_has v ver = subst (IsVersion v) (sym renamed.came) ver

    or_same : (a b : Bool) → (a || b) ≡ true → (a ≡ true) ⊎ ((a ≡ false) × (b ≡ true))
    or_same true b is = inl refl
    or_same false b is = inr (refl, is)

    adopted_in : (v : ℕ) → facts.own.ver.0 ≡ v → (facts.own.ver.0 == facts.carried.node.ver.0) ≡ false
        → same_hash S.edits.edits facts.own.ver.0 facts.carried.node.ver.0 ≡ true → GoneBy u.shared.edits v
    adopted_in v ver other same =
        let list = adopted_by (same_hash S.edits.edits) (get C.local.tree op.other.0) op.local in
        let is : adopted_by (same_hash S.edits.edits) (Some facts.own) (Put New) ≡ record { old = facts.own.ver; into = New.ver } ∷ [] =
        ap (λ b. cond (not b && (same_hash S.edits.edits facts.own.ver.0 facts.carried.node.ver.0)) (record { old = facts.own.ver; into = New.ver } ∷ []) []) other
        ∙ ap (λ b. cond b (record { old = facts.own.ver; into = New.ver } ∷ []) []) same in
        inr (subst (λ (r : Recorded). Any (λ (a : Adoption). a.old.0 ≡ v) r.adoptions) (sym its.recorded)
        (any_behind (λ (a : Adoption). a.old.0 ≡ v) S.edits.adoptions list
        (subst (Any (λ (a : Adoption). a.old.0 ≡ v)) (sym (ap (λ o. adopted_by (same_hash S.edits.edits) o op.local) facts.own_there ∙ ap (adopted_by (same_hash S.edits.edits) (Some facts.own)) puts ∙ is))
        (any_one (λ (a : Adoption). a.old.0 ≡ v) (record { old = facts.own.ver; into = New.ver }) ver))))

    by_kinds : (k l : Kind) → facts.node.kind ≡ k → facts.own.kind ≡ l → IsAlike (same_hash S.edits.edits) k facts.node.ver.0 l facts.own.ver.0 → (v : ℕ) → 0 < v → facts.own.ver.0 ≡ v
        → Has u.member.client.local.tree op.id.0 v ⊎ GoneBy u.shared.edits v
    by_kinds k Folder node own alike v some ver = absurd (no_version facts.own.kind facts.own.ver.0 facts.own.bit v own (can.fit.local.fits op.other.0 facts.own facts.own_there) ver some)
    by_kinds Folder File node own alike v some ver = absurd alike
    by_kinds File File node own alike v some ver =
        let one : facts.node ≡ facts.carried.node = (let a = facts.there in let b = facts.carried.there in cc) in
        elim (or_same (facts.own.ver.0 == facts.carried.node.ver.0) (same_hash S.edits.edits facts.own.ver.0 facts.carried.node.ver.0)
        (subst (λ (n : Node). same_content (same_hash S.edits.edits) facts.own.ver.0 n.ver.0 ≡ true) one alike)) [
          | inl equal ↦ inl (new_has v (sym (eqb-true facts.own.ver.0 facts.carried.node.ver.0 equal) ∙ ver))
          | inr (other, same) ↦ inr (adopted_in v ver other same)
        ]

    held : (v : ℕ) → 0 < v → HasVersion C.local.tree v → HasVersion u.member.client.local.tree v ⊎ GoneBy u.shared.edits v
    held v some has = elim (same_or_not has.id op.other.0) [
      | inl same ↦ (let own : Has C.local.tree op.other.0 v = subst (λ y. Has C.local.tree y v) same (version_at C.local.tree v has) in
          elim (by_kinds facts.node.kind facts.own.kind refl refl facts.alike v some (subst (IsVersion v) facts.own_there own)) [
            | inl now ↦ inl (has_version u.member.client.local.tree op.id.0 v now)
            | inr was ↦ inr was
          ])
      | inr off ↦ inl (has_version u.member.client.local.tree has.id v
          (others has.id v (λ same. subst (IsVersion v) facts.alone.0 (subst (λ y. Has C.local.tree y v) same (version_at C.local.tree v has))) off (version_at C.local.tree v has)))
    ]

    abbrev D : ClientState
    D = u.member.client

    synced_same : D.synced ≡ C.synced
    synced_same = ap (λ (c : ClientState). c.synced) its.client

    remote_same : D.remote.tree ≡ C.remote.tree
    remote_same = ap (λ (c : ClientState). c.remote.tree) its.client

    flights_none : D.flights ≡ []
    flights_none = ap (λ (c : ClientState). c.flights) its.client ∙ none

    adopted_clear : IsClear u.shared D
    adopted_clear = record {
      remote = λ x v some has. subst (λ m. Has m x v ⊎ GoneBy u.shared.edits v) (sym remote_same)
          (or_gone S u.shared further v (clear.remote x v some (subst (λ m. Has m x v) synced_same has)));
      local = λ x v some has. (let was : Has C.synced x v = subst (λ m. Has m x v) synced_same has in
          elim (or_gone S u.shared further v (clear.local x v some was)) [
            | inl own ↦ inl (others x v (λ same. subst (IsVersion v) facts.alone.1 (subst (λ y. Has C.synced y v) same was))
                (λ same. subst (IsVersion v) facts.own_alone.1 (subst (λ y. Has C.synced y v) same was)) own)
            | inr was ↦ inr was
          ]);
      flights = subst (All (IsFine u.shared D)) (sym flights_none) (all_none (IsFine u.shared D));
      alone = subst AreAlone (sym flights_none) (inl (omega arith));
    }

    adopted_fares : Fares t u
    adopted_fares = record {
      further = further;
      local = held;
      new = [];
      recorded = ap (λ (r : Recorded). r.edits) its.recorded ∙ sym (append-nil S.edits.edits);
      comes = all_none (Comes u.shared u.member.client.local.tree);
      journal = subst (λ es. Replaces (GoneBy u.shared.edits) empty es) (sym entries_same)
          (replaces_map (GoneBy S.edits) (GoneBy u.shared.edits) further.gone S.entries empty journal);
      clear = adopted_clear;
    }

  -- WHAT IS DUE
  well : (op : Op) → IsDue (same_hash S.edits.edits) C.remote.tree C.local.tree C.synced op.id.0 op
      → IsWellPlanned S C.remote.tree C.local.tree C.synced t.shared.ids.next_id can clear.remote clear.local op
  well op due = well_planned S C.remote.tree C.local.tree C.synced t.shared.ids.next_id can clear.remote clear.local op.id.0 due.wish op due.wished due.planned

  booked_fares : (shown : Op) → IsBooked P shown Q → Fares t u
  booked_fares shown is =
      let step = is.plan.1.step in
      let fine = (well is.op step.due).fine in
      noted_fares is.op (book_can P is.op can is.plan)
      (subst (IsFinePlan S C.remote.tree C.local.tree is.op) step.effect fine) is.noted

  launched_fares : (shown : List Op) → IsLaunched P shown Q → Fares t u
  launched_fares shown is =
      let due = (each_is_due (same_hash S.edits.edits) C.remote.tree C.local.tree C.synced t.shared.ids.next_id is.ops is.plan.1).0 in
      flies_so (after_fly is.ops C) is.client is.recorded refl
      (fly_clear S C at is.ops is.plan.0 (λ k d below. let its = due k d below in ((well _ its.due).fine, its.outside))
      (inr (whole_flights S C at C.next_op is.ops (λ k d below. let its = due k d below in (well _ its.due).whole))) clear)

  -- A MEND
  module _ (op : Op) (of : IsPlanOf P (plan.Mend op)) where
    mended_plan : op.verb ≢ verb.Adopt → IsFinePlan S C.remote.tree C.local.tree op op.effect
    mended_plan other = mend_plan S C.remote.tree C.local.tree C.synced t.shared.ids.next_id can clear.remote clear.local op op.verb other (mend_facts P op can of)

    noted_mend : op.verb ≢ verb.Adopt → op.effect ≡ effect.Nothing → IsNoted op C S.edits u.member.client u.shared.edits → Fares t u
    noted_mend other nothing noted = noted_fares op (mend_can P op can of nothing other) (subst (IsFinePlan S C.remote.tree C.local.tree op) nothing (mended_plan other)) noted

    at_once : (v : Verb) → op.verb ≡ v → op.effect ≡ effect.Nothing → IsMendedAtOnce v op C S.edits u.member.client u.shared.edits → Fares t u
    at_once verb.Adopt is nothing its = adopted_fares op (adoption P op can of is) of.0 its
    at_once verb.Split is nothing its = noted_mend (λ adopt. let bad : verb.Split ≡ verb.Adopt = sym is ∙ adopt in cc) nothing its
    at_once verb.Down is nothing its = noted_mend (λ adopt. let bad : verb.Down ≡ verb.Adopt = sym is ∙ adopt in cc) nothing its
    at_once verb.Up is nothing its = noted_mend (λ adopt. let bad : verb.Up ≡ verb.Adopt = sym is ∙ adopt in cc) nothing its
    at_once verb.CutDown is nothing its = noted_mend (λ adopt. let bad : verb.CutDown ≡ verb.Adopt = sym is ∙ adopt in cc) nothing its
    at_once verb.CutUp is nothing its = noted_mend (λ adopt. let bad : verb.CutUp ≡ verb.Adopt = sym is ∙ adopt in cc) nothing its
    at_once verb.Forget is nothing its = noted_mend (λ adopt. let bad : verb.Forget ≡ verb.Adopt = sym is ∙ adopt in cc) nothing its
    at_once verb.Unmove is nothing its = noted_mend (λ adopt. let bad : verb.Unmove ≡ verb.Adopt = sym is ∙ adopt in cc) nothing its
    at_once verb.Revive is nothing its = noted_mend (λ adopt. let bad : verb.Revive ≡ verb.Adopt = sym is ∙ adopt in cc) nothing its
    at_once verb.Evict is nothing its = noted_mend (λ adopt. let bad : verb.Evict ≡ verb.Adopt = sym is ∙ adopt in cc) nothing its

    not_adopted : op.effect ≢ effect.Nothing → op.verb ≢ verb.Adopt
    not_adopted works adopt = let facts = adoption P op can of adopt in works (ap (λ (o : Op). o.effect) facts.carried.is)

    mend_flies : op.effect ≢ effect.Nothing → MendFlies op P Q → Fares t u
    mend_flies works its = flies_so (after_fly (op ∷ []) C) its.client its.recorded refl
        (fly_clear S C at (op ∷ []) of.0 (all_front (Flown S C at) op [] (mended_plan (not_adopted works), works) (all_none (Flown S C at))) (inl (omega arith)) clear)

    mend_goes : (e : Effect) → op.effect ≡ e → MendGoes e op P Q → Fares t u
    mend_goes effect.Nothing is goes = at_once op.verb refl is goes.0
    mend_goes effect.Disk is goes = mend_flies (λ nothing. let bad : effect.Disk ≡ effect.Nothing = sym is ∙ nothing in cc) goes
    mend_goes effect.Commit is goes = mend_flies (λ nothing. let bad : effect.Commit ≡ effect.Nothing = sym is ∙ nothing in cc) goes

  -- EVERY ANSWER
  same_planning : planning_of u ≡ planning_of t → Fares t u
  same_planning same = fares_same t u (ap (λ (v : Turn). v.shared) now ∙ ap (λ (q : Planning). (with_planning q t).shared) same) (ap (λ (q : Planning). q.client) same) journal clear

  pub answer_fares : (a : Planned) → PlanAnswers P a Q → Fares t u
  answer_fares answer.Empty is = same_planning is.1
  answer_fares (answer.Busy k) is = same_planning is.2
  answer_fares (answer.Booked shown) is = booked_fares shown is
  answer_fares (answer.Batch shown) is = launched_fares shown is
  answer_fares (answer.Mend shown) is = mend_goes is.op is.plan is.op.effect refl is.goes

pub plan_fares : (t u : Turn) → IsKeptJournal t.shared → IsAt t.shared.entries t.member.client.remote → CanPlan t.member.client t.shared.ids.next_id → IsClear t.shared t.member.client
    → (a : Planned) → Plans a t u → Fares t u
plan_fares t u journal at can clear a (is, now) = answer_fares t u journal at can clear now a is
