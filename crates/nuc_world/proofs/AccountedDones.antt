-- A Done loses nothing.
use Rattle.std.specs.Prelude.{length, take}
use Rattle.std.proofs.Common.{◌≡◌, ◌⊎◌, ◌-◌, ◌<◌, ◌≤◌, ◌==◌, ℕ, Bool, true, false, cond, List, [], ◌∷◌, Option, Some, None, refl, sym, ◌∙◌, ap, subst, inl, inr, arith}
use Rattle.std.proofs.lemmas.List.{append-nil, length-take}
use Rattle.std.specs.FinMap.{empty, get}
use Rattle.nuc_base.specs.Changes.{node_after}
use Rattle.nuc_base.proofs.Maps.{same_or_not}
use Rattle.nuc_class.specs.declared.op.Effect.{Effect}
use Rattle.nuc_class.specs.declared.op.Effect.TheVariants as effect
use Rattle.nuc_edits.specs.Edits.{Recorded}
use Rattle.nuc_flights.specs.Flights.{Flight, Stage, flight_of, planned, started, taken, without}
use Rattle.nuc_flights.specs.declared.taken.Taken.{Taken}
use Rattle.nuc_flights.specs.declared.taken.Taken.TheVariants as came
use Rattle.nuc_folder.specs.Outcome.{is_success}
use Rattle.nuc_folder.specs.declared.outcome.Outcome.{Outcome}
use Rattle.nuc_journal.specs.Entries.{tree_of}
use Rattle.nuc_replica.specs.Following.{IsAt}
use Rattle.nuc_replica.proofs.Journaled.{at_caught_up}
use Rattle.nuc_server.specs.WebEdits.{WebState}
use Rattle.nuc_step.specs.Client.{ClientState}
use Rattle.nuc_step.specs.Sound.{FitsStage, IsClient, IsFlight, known_to}
use Rattle.nuc_step.specs.Steps.{CanLand, Ends, EndsAt, EndsOf, NothingToEnd, caught_up_to, finished, is_split, landed, reason_of, with_adoptions}
use Rattle.nuc_step.specs.declared.reason.Reason.{Reason}
use Rattle.nuc_step.specs.declared.reason.Reason.TheVariants as reason
use Rattle.nuc_step.specs.declared.reply.DoneReply.{DoneReply}
use Rattle.nuc_step.specs.declared.reply.DoneReply.TheVariants as done
use Rattle.nuc_world.specs.Starts.{with_client}
use Rattle.nuc_world.specs.State.{Turn}
use Rattle.nuc_world.specs.Step.{Dones}
use Rattle.nuc_world.proofs.AccountedForm.{AreAlone, Comes, Fares, GoneBy, Has, IsClear, IsFine, IsFineOp, IsFineStage, IsFineTaken, IsKeptJournal, IsVersion, IsWhole, changed_has, changed_other, synced_then}
use Rattle.nuc_world.proofs.AccountedGrown.{Moves, either, fine_moved, further_same}
use Rattle.nuc_world.proofs.AccountedJournal.{between_has, caught_up_has, replaces_map}
use Rattle.nuc_world.proofs.AccountedLands.{CanLandSo, Landed, landed_clear, landed_further, landed_held}
use Rattle.nuc_world.proofs.AccountedQuiet.{fares_alone}
use Rattle.nuc_world.proofs.Dones.{flight_all}
use Rattle.nuc_world.proofs.Items.{all_map, all_none}
use Rattle.nuc_world.proofs.Later.{all_without}

-- FLIGHTS without one
fewer : (n : ℕ) (fs : List Flight) → length (without n fs) ≤ length fs
fewer n [] = omega arith
fewer n (f ∷ fs) = elim (f.op.number == n) as (λ b. length (cond b fs (f ∷ without n fs)) ≤ length (f ∷ fs)) [
  | true ↦ omega arith
  | false ↦ (let less = fewer n fs in omega (arith, less))
]

alone_without : (n : ℕ) (fs : List Flight) → AreAlone fs → AreAlone (without n fs)
alone_without n fs (inl few) = inl (let less = fewer n fs in omega (arith, few, less))
alone_without n fs (inr whole) = inr (all_without IsWhole n fs whole)

none_left : (n : ℕ) (f : Flight) (fs : List Flight) → flight_of n fs ≡ Some f → length fs ≤ 1 → without n fs ≡ []
none_left n f [] there few = refl
none_left n f (g ∷ []) there few = elim (g.op.number == n) as (λ b. cond b (Some g) None ≡ Some f → cond b [] (g ∷ []) ≡ []) [
  | true ↦ λ here. refl
  | false ↦ λ later. cc
] there
none_left n f (g ∷ h ∷ fs) there few = absurd (omega (arith, few))

none_beside : (n : ℕ) (f : Flight) (fs : List Flight) → flight_of n fs ≡ Some f → AreAlone fs → is_split f.op.verb ≡ true → without n fs ≡ []
none_beside n f fs there (inl few) split = none_left n f fs there few
none_beside n f fs there (inr whole) split = absurd (let not = flight_all IsWhole n fs f there whole in let bad : true ≡ false = sym split ∙ not in cc)

success_of : (o : Outcome) (b : Bool) → is_success o ≡ b → cond b None (Some (reason.Folder o)) ≡ None → b ≡ true
success_of o true is none = refl
success_of o false is none = cc

module _ (t : Turn) (journal : IsKeptJournal t.shared) (at : IsAt t.shared.entries t.member.client.remote) (client : IsClient t.member.client)
    (clear : IsClear t.shared t.member.client) (n : ℕ) where
  abbrev S : WebState
  S = t.shared

  abbrev C : ClientState
  C = t.member.client

  abbrev After : ClientState → Recorded → Turn
  After d f = record { shared = record t.shared { edits = f }; member = with_client d t.member }

  remote_on : (tk : Taken) (x v : ℕ) → 0 < v → Has C.remote.tree x v → Has (caught_up_to tk C.remote).tree x v ⊎ GoneBy S.edits v
  remote_on (came.Folder o) x v some has = inl has
  remote_on (came.Accepted rev) x v some has = caught_up_has (GoneBy S.edits) S.entries C.remote journal at rev x v some has
  remote_on (came.Refused why) x v some has = inl has

  finished_moves : (tk : Taken) → Moves S C S (finished n tk C)
  finished_moves tk = record { further = further_same S S refl refl; local = λ x v some has. inl has; remote = remote_on tk }

  finished_clear : (tk : Taken) → IsClear S (finished n tk C)
  finished_clear tk = record {
    remote = λ x v some has. either (clear.remote x v some has) (remote_on tk x v some);
    local = clear.local;
    flights = all_without (IsFine S (finished n tk C)) n C.flights
        (all_map (IsFine S C) (IsFine S (finished n tk C)) (fine_moved S C S (finished n tk C) (finished_moves tk)) C.flights clear.flights);
    alone = alone_without n C.flights clear.alone;
  }

  -- NOTHING IS WRITTEN
  only_finished : (tk : Taken) → Fares t (After (finished n tk C) S.edits)
  only_finished tk = fares_alone t (After (finished n tk C) S.edits) refl journal refl (finished_clear tk)

  finished_so : (tk : Taken) (d : ClientState) (f : Recorded) → d ≡ finished n tk C → f ≡ S.edits → Fares t (After d f)
  finished_so tk d f is same = subst (λ e. Fares t (After e f)) (sym is) (subst (λ g. Fares t (After (finished n tk C) g)) (sym same) (only_finished tk))

  nothing_so : (r : DoneReply) (d : ClientState) (f : Recorded) → NothingToEnd C S.edits r d f → Fares t (After d f)
  nothing_so done.NoSuchOp d f (is, same) =
      subst (λ e. Fares t (After e f)) (sym is) (subst (λ g. Fares t (After C g)) (sym same) (fares_alone t (After C S.edits) refl journal refl clear))
  nothing_so done.Applied d f is = absurd is
  nothing_so done.Stale d f is = absurd is
  nothing_so (done.Dropped w) d f is = absurd is

  module _ (fl : Flight) (there : flight_of n C.flights ≡ Some fl) where
    fine : IsFine S C fl
    fine = flight_all (IsFine S C) n C.flights fl there clear.flights

    is_flight : IsFlight (known_to C.remote) fl
    is_flight = flight_all (IsFlight (known_to C.remote)) n C.flights fl there client.flights

    -- IN THE FOLDER
    folder_lands : (o : Outcome) (e : Effect) → is_success o ≡ true → IsFineOp S C fl.op e → IsFineTaken S fl.op e (came.Folder o)
        → CanLand (finished n (came.Folder o) C) fl.op (came.Folder o)
        → Fares t (After (landed fl.op (came.Folder o) (finished n (came.Folder o) C)) (with_adoptions fl.op (came.Folder o) S.edits))
    folder_lands o effect.Commit success op stage can = absurd (let bad : true ≡ false = sym success ∙ stage in cc)
    folder_lands o effect.Nothing success op stage can = absurd op
    folder_lands o effect.Disk success op stage can =
        let b : ClientState = finished n (came.Folder o) C in
        let u : Turn = After (landed fl.op (came.Folder o) b) (with_adoptions fl.op (came.Folder o) S.edits) in
        let its : Landed S b fl.op o u.shared u.member.client = record { edits = refl; entries = refl; remote = refl; local = refl; synced = refl; flights = refl } in
        let may : CanLandSo S b fl.op = record {
          lands = op;
          old_local = can.0.old;
          new = can.0.other;
          old_synced = can.1.old;
          other = is_flight.op.other;
          alone = λ split. none_beside n fl C.flights there clear.alone split;
        } in
        let further = landed_further S b fl.op o u.shared u.member.client its may (finished_clear (came.Folder o)) in
        record {
          further = further;
          local = landed_held S b fl.op o u.shared u.member.client its may (finished_clear (came.Folder o));
          new = [];
          recorded = sym (append-nil S.edits.edits);
          comes = all_none (Comes u.shared u.member.client.local.tree);
          journal = replaces_map (GoneBy S.edits) (GoneBy u.shared.edits) further.gone S.entries empty journal;
          clear = landed_clear S b fl.op o u.shared u.member.client its may (finished_clear (came.Folder o));
        }

    -- AT THE SERVER
    module _ (rev : ℕ) (known : rev ≤ known_to C.remote) where
      abbrev B : ClientState
      B = finished n (came.Accepted rev) C

      abbrev D : ClientState
      D = landed fl.op (came.Accepted rev) (finished n (came.Accepted rev) C)

      there_now : (x v : ℕ) → 0 < v → Has (tree_of (take rev S.entries)) x v → Has B.remote.tree x v ⊎ GoneBy S.edits v
      there_now x v some has =
          let reached = at_caught_up S.entries C.remote rev at in
          let size = length-take (rev - C.remote.cursor) C.remote.ahead in
          subst (λ m. Has m x v ⊎ GoneBy S.edits v) (sym reached.tree)
          (between_has (GoneBy S.edits) S.entries rev B.remote.cursor x v (omega (arith, size, known)) some journal has)

      accepted_moves : Moves S B S D
      accepted_moves = record { further = further_same S S refl refl; local = λ x v some has. inl has; remote = λ x v some has. inl has }

      accepted_clear : (e : Effect) → IsFineOp S C fl.op e → IsFineTaken S fl.op e (came.Accepted rev) → get B.synced fl.op.id.0 ≡ fl.op.old_synced → IsClear S D
      accepted_clear effect.Disk op stage old = absurd stage
      accepted_clear effect.Nothing op stage old = absurd op
      accepted_clear effect.Commit op stage old =
          let its : IsClear S B = finished_clear (came.Accepted rev) in
          let own : (v : ℕ) → Has D.synced fl.op.id.0 v → IsVersion v (synced_then fl.op) =
          λ v has. subst (λ was. IsVersion v (node_after fl.op.synced was)) old (changed_has B.synced fl.op.id.0 fl.op.synced v has) in
          let others : (x v : ℕ) → ¬ (x ≡ fl.op.id.0) → Has D.synced x v → Has B.synced x v =
          λ x v apart has. subst (IsVersion v) (changed_other B.synced fl.op.id.0 fl.op.synced x apart) has in
          record {
            remote = λ x v some has. elim (same_or_not x fl.op.id.0) [
              | inl same ↦ subst (λ y. Has B.remote.tree y v ⊎ GoneBy S.edits v) (sym same)
                  (elim (op.synced v some (own v (subst (λ y. Has D.synced y v) same has))) [
                    | inl was ↦ its.remote fl.op.id.0 v some (subst (IsVersion v) (sym old) was)
                    | inr puts ↦ there_now fl.op.id.0 v some (stage.gave v some puts)
                  ])
              | inr apart ↦ its.remote x v some (others x v apart has)
            ];
            local = λ x v some has. elim (same_or_not x fl.op.id.0) [
              | inl same ↦ subst (λ y. Has B.local.tree y v ⊎ GoneBy S.edits v) (sym same) (op.local v some (own v (subst (λ y. Has D.synced y v) same has)))
              | inr apart ↦ its.local x v some (others x v apart has)
            ];
            flights = all_map (IsFine S B) (IsFine S D) (fine_moved S B S D accepted_moves) B.flights its.flights;
            alone = its.alone;
          }

      accepted_lands : (e : Effect) → IsFineOp S C fl.op e → IsFineTaken S fl.op e (came.Accepted rev) → CanLand (finished n (came.Accepted rev) C) fl.op (came.Accepted rev)
          → Fares t (After (landed fl.op (came.Accepted rev) (finished n (came.Accepted rev) C)) (with_adoptions fl.op (came.Accepted rev) S.edits))
      accepted_lands e op stage can =
          let same : with_adoptions fl.op (came.Accepted rev) S.edits ≡ S.edits = ap (λ list. record S.edits { adoptions = list }) (append-nil S.edits.adoptions) in
          subst (λ f. Fares t (After D f)) (sym same) (fares_alone t (After D S.edits) refl journal refl (accepted_clear e op stage can.old))

    applied : (tk : Taken) → fl.stage ≡ taken tk → reason_of tk ≡ None → CanLand (finished n tk C) fl.op tk
        → Fares t (After (landed fl.op tk (finished n tk C)) (with_adoptions fl.op tk S.edits))
    applied (came.Folder o) stage none can =
        folder_lands o fl.op.effect (success_of o (is_success o) refl none) fine.op (subst (IsFineStage S fl.op fl.op.effect) stage fine.stage) can
    applied (came.Accepted rev) stage none can =
        accepted_lands rev (subst (FitsStage (known_to C.remote) fl.op) stage is_flight.stage) fl.op.effect fine.op (subst (IsFineStage S fl.op fl.op.effect) stage fine.stage) can
    applied (came.Refused why) stage none can = absurd can

    ends : (tk : Taken) → fl.stage ≡ taken tk → (why : Option Reason) → reason_of tk ≡ why → (r : DoneReply) (d : ClientState) (f : Recorded)
        → Ends n fl.op tk why C S.edits r d f → Fares t (After d f)
    ends tk stage None why done.Applied d f (can, is, same) =
        subst (λ e. Fares t (After e f)) (sym is) (subst (λ g. Fares t (After (landed fl.op tk (finished n tk C)) g)) (sym same) (applied tk stage why can))
    ends tk stage None why done.Stale d f (can, is, same) = finished_so tk d f is same
    ends tk stage None why (done.Dropped w) d f is = absurd is
    ends tk stage None why done.NoSuchOp d f is = absurd is
    ends tk stage (Some because) why (done.Dropped w) d f (so, is, same) = finished_so tk d f is same
    ends tk stage (Some because) why done.Applied d f is = absurd is
    ends tk stage (Some because) why done.Stale d f is = absurd is
    ends tk stage (Some because) why done.NoSuchOp d f is = absurd is

    ends_at : (stage : Stage) → fl.stage ≡ stage → (r : DoneReply) (d : ClientState) (f : Recorded) → EndsAt n fl.op stage C S.edits r d f → Fares t (After d f)
    ends_at planned is r d f none = nothing_so r d f none
    ends_at started is r d f none = nothing_so r d f none
    ends_at (taken tk) is r d f ending = ends tk is (reason_of tk) refl r d f ending

  ends_of : (o : Option Flight) → flight_of n C.flights ≡ o → (r : DoneReply) (d : ClientState) (f : Recorded) → EndsOf n o C S.edits r d f → Fares t (After d f)
  ends_of None there r d f none = nothing_so r d f none
  ends_of (Some fl) there r d f ending = ends_at fl there fl.stage refl r d f ending

  pub done_fares : (r : DoneReply) (u : Turn) → Dones n r t u → Fares t u
  done_fares r u (is, now) = subst (λ (v : Turn). Fares t v) (sym now) (ends_of (flight_of n C.flights) refl r u.member.client u.shared.edits is)
