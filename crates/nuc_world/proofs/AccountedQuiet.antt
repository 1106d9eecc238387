-- What changes nothing that is shared, and nothing in Local: listing, pulling, beginning an operation, forgetting what flies.
use Rattle.std.specs.Prelude.{All, length}
use Rattle.std.proofs.Common.{◌≡◌, ◌⊎◌, ◌==◌, ℕ, Bool, true, false, cond, List, [], ◌∷◌, Option, Some, None, refl, sym, ap, subst, inl, inr, arith}
use Rattle.std.proofs.lemmas.List.{append-nil}
use Rattle.std.specs.FinMap.{get}
use Rattle.nuc_class.specs.declared.op.Effect.{Effect}
use Rattle.nuc_class.specs.declared.op.Effect.TheVariants as effect
use Rattle.nuc_class.specs.declared.op.Op.{Op}
use Rattle.nuc_flights.specs.Flights.{Flight, Stage, flight_of, started, staged, taken}
use Rattle.nuc_flights.specs.declared.taken.Taken.{Taken}
use Rattle.nuc_flights.specs.declared.taken.Taken.TheVariants as came
use Rattle.nuc_folder.specs.Outcome.{is_success}
use Rattle.nuc_folder.specs.declared.outcome.Outcome.{Outcome}
use Rattle.nuc_folder.specs.declared.outcome.Outcome.TheVariants as outcome
use Rattle.nuc_journal.specs.declared.entry.Entry.{Entry}
use Rattle.nuc_log.specs.declared.reply.StartReply.{StartReply}
use Rattle.nuc_log.specs.declared.reply.StartReply.TheVariants as start
use Rattle.nuc_replica.specs.Following.{IsAt}
use Rattle.nuc_server.specs.Versions.{HasVersion}
use Rattle.nuc_server.specs.WebEdits.{WebState}
use Rattle.nuc_step.specs.Client.{ClientState}
use Rattle.nuc_step.specs.Stages.{planned_of}
use Rattle.nuc_step.specs.Steps.{after_pull, after_restart, after_start, after_take}
use Rattle.nuc_world.specs.Starts.{Begins, Reads, Starts, StartsOf, Uploads, called, has_started, is_over, is_upload, with_client}
use Rattle.nuc_world.specs.State.{MemberState, Turn}
use Rattle.nuc_world.specs.Step.{Pulls, after_restarting, page}
use Rattle.nuc_world.proofs.AccountedForm.{AreAlone, Comes, Fares, GoneBy, Has, IsClear, IsFine, IsFineOp, IsFineStage, IsKeptJournal, IsWhole}
use Rattle.nuc_world.proofs.AccountedGrown.{Moves, clear_moved, fine_moved, further_same}
use Rattle.nuc_world.proofs.AccountedJournal.{next_has}
use Rattle.nuc_world.proofs.Items.{all_first, all_front, all_map, all_none, all_rest}
use Rattle.nuc_world.proofs.Later.{all_staged}

-- NOTHING THAT IS SHARED, and nothing in Local
pub fares_alone : (t u : Turn) → u.shared ≡ t.shared → IsKeptJournal t.shared → u.member.client.local.tree ≡ t.member.client.local.tree
    → IsClear t.shared u.member.client → Fares t u
fares_alone t u same journal local clear = subst (λ s. Fares t (record { shared = s; member = u.member })) (sym same) (record {
  further = further_same t.shared t.shared refl refl;
  local = λ v some has. inl (subst (λ m. HasVersion m v) (sym local) has);
  new = [];
  recorded = sym (append-nil t.shared.edits.edits);
  comes = all_none (Comes t.shared u.member.client.local.tree);
  journal = journal;
  clear = clear;
})

-- the same client
pub fares_same : (t u : Turn) → u.shared ≡ t.shared → u.member.client ≡ t.member.client → IsKeptJournal t.shared → IsClear t.shared t.member.client → Fares t u
fares_same t u shared client journal clear =
    fares_alone t u shared journal (ap (λ (c : ClientState). c.local.tree) client) (subst (IsClear t.shared) (sym client) clear)

-- FLIGHTS at another stage
length_staged : (n : ℕ) (st : Stage) (fs : List Flight) → length (staged n st fs) ≡ length fs
length_staged n st [] = refl
length_staged n st (f ∷ fs) = elim (f.op.number == n) as (λ b. length (cond b (record f { stage = st } ∷ fs) (f ∷ staged n st fs)) ≡ length (f ∷ fs)) [
  | true ↦ omega arith
  | false ↦ (let same = length_staged n st fs in omega (arith, same))
]

alone_staged : (n : ℕ) (st : Stage) (fs : List Flight) → AreAlone fs → AreAlone (staged n st fs)
alone_staged n st fs (inl few) = inl (let same = length_staged n st fs in omega (arith, few, same))
alone_staged n st fs (inr whole) = inr (all_staged IsWhole n st (λ f is. is) fs whole)

-- the one that is found comes to it
pub staged_at : (P : Flight → Type 0) (n : ℕ) (st : Stage) (at : Flight) (fs : List Flight) → flight_of n fs ≡ Some at → (P at → P (record at { stage = st })) → All P fs
    → All P (staged n st fs)
staged_at P n st at [] there each all = all
staged_at P n st at (f ∷ fs) there each all =
    elim (f.op.number == n) as (λ b. cond b (Some f) (flight_of n fs) ≡ Some at → All P (cond b (record f { stage = st } ∷ fs) (f ∷ staged n st fs))) [
      | true ↦ λ here. (let same : at ≡ f = cc in
          all_front P (record f { stage = st }) fs (subst (λ g. P g → P (record g { stage = st })) same each (all_first P f fs all)) (all_rest P f fs all))
      | false ↦ λ later. all_front P f (staged n st fs) (all_first P f fs all) (staged_at P n st at fs later each (all_rest P f fs all))
    ] there

module _ (s : WebState) where
  -- a client of which nothing but flights and what it heard of changed
  pub clear_flown : (c d : ClientState) → d.remote.tree ≡ c.remote.tree → d.local.tree ≡ c.local.tree → d.synced ≡ c.synced → AreAlone d.flights
      → All (IsFine s c) d.flights → IsClear s c → IsClear s d
  clear_flown c d remote local synced alone flights is =
      let moves : Moves s c s d = record {
        further = further_same s s refl refl;
        local = λ x v some has. inl (subst (λ m. Has m x v) (sym local) has);
        remote = λ x v some has. inl (subst (λ m. Has m x v) (sym remote) has);
      } in
      record {
        remote = λ x v some has. subst (λ m. Has m x v ⊎ GoneBy s.edits v) (sym remote) (is.remote x v some (subst (λ m. Has m x v) synced has));
        local = λ x v some has. subst (λ m. Has m x v ⊎ GoneBy s.edits v) (sym local) (is.local x v some (subst (λ m. Has m x v) synced has));
        flights = all_map (IsFine s c) (IsFine s d) (fine_moved s c s d moves) d.flights flights;
        alone = alone;
      }

  started_fine : (c : ClientState) (f : Flight) → IsFine s c f → IsFine s c (record f { stage = started })
  started_fine c f is = record { op = is.op; stage = tt }

  pub started_clear : (n : ℕ) (c : ClientState) → IsClear s c → IsClear s (after_start n c)
  started_clear n c is = clear_flown c (after_start n c) refl refl refl (alone_staged n started c.flights is.alone)
      (all_staged (IsFine s c) n started (started_fine c) c.flights is.flights) is

  failed_stage : (c : ClientState) (op : Op) (o : Outcome) → is_success o ≡ false → (e : Effect) → IsFineOp s c op e → IsFineStage s op e (taken (came.Folder o))
  failed_stage c op o fails effect.Disk is = tt
  failed_stage c op o fails effect.Commit is = fails
  failed_stage c op o fails effect.Nothing is = is

  refused_stage : (c : ClientState) (op : Op) (why : _) (e : Effect) → IsFineOp s c op e → IsFineStage s op e (taken (came.Refused why))
  refused_stage c op why effect.Disk is = tt
  refused_stage c op why effect.Commit is = tt
  refused_stage c op why effect.Nothing is = is

  -- taken, where all that may be taken so stays fine
  pub taken_clear : (n : ℕ) (t : Taken) (news : List Entry) (c : ClientState) → All (IsFine s c) (staged n (taken t) c.flights) → IsClear s c
      → IsClear s (after_take n t news c)
  taken_clear n t news c flights is = clear_flown c (after_take n t news c) refl refl refl (alone_staged n (taken t) c.flights is.alone) flights is

  pub failed_clear : (n : ℕ) (o : Outcome) (news : List Entry) (c : ClientState) → is_success o ≡ false → IsClear s c → IsClear s (after_take n (came.Folder o) news c)
  failed_clear n o news c fails is = taken_clear n (came.Folder o) news c
      (all_staged (IsFine s c) n (taken (came.Folder o)) (λ f fine. record { op = fine.op; stage = failed_stage c f.op o fails f.op.effect fine.op }) c.flights is.flights) is

  pub refused_clear : (n : ℕ) (why : _) (news : List Entry) (c : ClientState) → IsClear s c → IsClear s (after_take n (came.Refused why) news c)
  refused_clear n why news c is = taken_clear n (came.Refused why) news c
      (all_staged (IsFine s c) n (taken (came.Refused why)) (λ f fine. record { op = fine.op; stage = refused_stage c f.op why f.op.effect fine.op }) c.flights is.flights) is

  -- A START. Local stays, and the client is clear
  record Stays (c d : ClientState) : Type 0 where
    local : d.local.tree ≡ c.local.tree
    clear : IsClear s d

  module _ (m : MemberState) (is : IsClear s m.client) (n : ℕ) where
    over_stays : (o : Outcome) → is_success o ≡ false → Stays m.client (is_over n o m).client
    over_stays o fails = record { local = refl; clear = failed_clear n o [] (after_start n m.client) fails (started_clear n m.client is) }

    start_stays : Stays m.client (has_started n m).client
    start_stays = record { local = refl; clear = started_clear n m.client is }

    at_now : (b u : MemberState) → u ≡ b → Stays m.client b.client → Stays m.client u.client
    at_now b u now stays = subst (λ (w : MemberState). Stays m.client w.client) (sym now) stays

    reads_stay : (key : ℕ) (r : StartReply) (u : MemberState) → Reads n key m r u → Stays m.client u.client
    reads_stay key (start.Ok (Some bytes)) u (lasts, at, now) = at_now (called (has_started n m)) u now start_stays
    reads_stay key (start.Ok None) u reads = absurd reads
    reads_stay key start.Changed u (lasts, at, now) = at_now (called (is_over n outcome.Changed m)) u now (over_stays outcome.Changed refl)
    reads_stay key start.Failed u (due, now) = at_now (called (is_over n outcome.Failed m)) u now (over_stays outcome.Failed refl)
    reads_stay key start.NoSuchOp u reads = absurd reads

    uploads_stay : (key : Option ℕ) (r : StartReply) (u : MemberState) → Uploads n key m r u → Stays m.client u.client
    uploads_stay (Some key) r u reads = reads_stay key r u reads
    uploads_stay None r u (same, now) = at_now (is_over n outcome.Changed m) u now (over_stays outcome.Changed refl)

    begins_stay : (op : Op) (upload : Bool) (r : StartReply) (u : MemberState) → Begins n op upload m r u → Stays m.client u.client
    begins_stay op true r u uploads = uploads_stay (get m.client.local.keys op.id.0) r u uploads
    begins_stay op false r u (same, now) = at_now (has_started n m) u now start_stays

    starts_stay : (op : Option Op) (r : StartReply) (u : MemberState) → StartsOf n op m r u → Stays m.client u.client
    starts_stay None r u (same, now) = at_now m u now (record { local = refl; clear = is })
    starts_stay (Some op) r u begins = begins_stay op (is_upload op) r u begins

module _ (t u : Turn) (journal : IsKeptJournal t.shared) (clear : IsClear t.shared t.member.client) where
  pub start_fares : (n : ℕ) (r : StartReply) → Starts n t.member r u.member → u.shared ≡ t.shared → Fares t u
  start_fares n r starts same =
      let stays = starts_stay t.shared t.member clear n (planned_of (flight_of n t.member.client.flights)) r u.member starts in
      fares_alone t u same journal stays.local stays.clear

  pub pull_fares : (entries cursor : ℕ) → IsAt t.shared.entries t.member.client.remote → Pulls entries cursor t u → Fares t u
  pull_fares entries cursor at pulls =
      let c : ClientState = t.member.client in
      let d : ClientState = after_pull (page t) c in
      let moves : Moves t.shared c t.shared d = record {
        further = further_same t.shared t.shared refl refl;
        local = λ x v some has. inl has;
        remote = λ x v some has. next_has (GoneBy t.shared.edits) t.shared.entries c.remote journal at 64 x v some has;
      } in
      subst (λ (v : Turn). Fares t v) (sym pulls.now)
      (fares_alone t (record t { member = with_client d t.member }) refl journal refl (clear_moved t.shared c t.shared d moves refl refl clear))

  pub restart_fares : u ≡ after_restarting t → Fares t u
  restart_fares now =
      let d : ClientState = after_restart t.member.client in
      subst (λ (v : Turn). Fares t v) (sym now)
      (fares_alone t (after_restarting t) refl journal refl
      (clear_flown t.shared t.member.client d refl refl refl (inl (omega arith)) (all_none (IsFine t.shared t.member.client)) clear))
