-- A Take of a client that is left alone: a started operation is carried out in the folder, or judged by the server.
use Rattle.std.specs.Prelude.{All, Contains}
use Rattle.std.proofs.Common.{◌≡◌, ◌≤◌, ◌+◌, ◌++◌, ℕ, zero, suc, Bool, true, false, List, [], ◌∷◌, length, drop, Option, None, Some, refl, sym, ◌∙◌, ap, subst, inl, inr, arith}
use Rattle.std.proofs.lemmas.List.{drop-append-le}
use Rattle.std.proofs.lemmas.List.Elements.{All-contains, Contains-append_cases}
use Rattle.std.specs.Option.{unwrap_or}
use Rattle.nuc_class.specs.declared.op.Effect.TheVariants as effect
use Rattle.nuc_class.specs.declared.op.Op.{Op}
use Rattle.nuc_flights.specs.Flights.{Flight, Stage, flight_of, planned, started, taken}
use Rattle.nuc_flights.specs.declared.taken.Taken.TheVariants as came
use Rattle.nuc_hash.specs.Content.{content_of}
use Rattle.nuc_journal.specs.declared.entry.Entry.{Entry}
use Rattle.nuc_log.specs.declared.log.LogEntry.{LogEntry}
use Rattle.nuc_log.specs.declared.reply.Reply.TheVariants as reply
use Rattle.nuc_log.specs.declared.reply.TakeReply.{TakeReply}
use Rattle.nuc_log.specs.declared.reply.TakeReply.TheVariants as took
use Rattle.nuc_replica.specs.Following.{IsAt}
use Rattle.nuc_server.specs.Judge.{next_entry}
use Rattle.nuc_step.specs.Order.{IsReady}
use Rattle.nuc_step.specs.Sound.{FitsStage, IsClient, IsFlight, known_to}
use Rattle.nuc_step.specs.Stages.{if_started, started_of}
use Rattle.nuc_world.specs.Form.{AreGiven, IsStageBelow}
use Rattle.nuc_world.specs.Starts.{is_upload}
use Rattle.nuc_world.specs.State.{Turn}
use Rattle.nuc_world.specs.Takes.{CarriesOut, Commits, CommitsBytes, CommitsRead, IsJudged, IsOutdated, Takes, TakesBy, TakesOf, bytes_for, commit_of, committed, is_commit, is_recorded, read_in, stored, view_of}
use Rattle.nuc_converge.specs.Alone.{HasGoneWell}
use Rattle.nuc_converge.proofs.InFlight.{IsAlone, IsEntryOf}
use Rattle.nuc_converge.proofs.NewKeys.{keys_other, keys_stand, none_other, op_from}
use Rattle.nuc_converge.proofs.Point.{Moves}
use Rattle.nuc_converge.proofs.Restaged.{IsUntaken, MayCome}
use Rattle.nuc_converge.proofs.Staged.{at_stage}
use Rattle.nuc_converge.proofs.Starting.{staged_moves, still_moves}

-- WHICH OPERATION is taken: one that has begun
pub record IsStartedAs (n : ℕ) (fs : List Flight) (op : Op) : Type 0 where
  pub flight : Flight
  pub there : flight_of n fs ≡ Some flight
  pub stage : flight.stage ≡ started
  pub is : flight.op ≡ op

started_stage : (st : Stage) (op other : Op) → if_started st op ≡ Some other → (st ≡ started) × (op ≡ other)
started_stage planned op other is = absurd (cc)
started_stage started op other is = (refl, cc)
started_stage (taken t) op other is = absurd (cc)

started_found : (n : ℕ) (fs : List Flight) (o : Option Flight) (op : Op) → flight_of n fs ≡ o → started_of o ≡ Some op → IsStartedAs n fs op
started_found n fs None op there is = absurd (cc)
started_found n fs (Some f) op there is =
    let (stage, same) = started_stage f.stage f.op op is in record { flight = f; there = there; stage = stage; is = same }

-- a commit isn't carried out in the folder, and nothing else is judged
not_commit : (f : Flight) → is_commit f.op.effect ≡ false → ¬ (f.op.effect ≡ effect.Commit)
not_commit f is commit = let clash : true ≡ false = sym (ap is_commit commit) ∙ is in cc

not_disk : (f : Flight) → is_commit f.op.effect ≡ true → ¬ (f.op.effect ≡ effect.Disk)
not_disk f is disk = let clash : false ≡ true = sym (ap is_commit disk) ∙ is in cc

-- the entry that comes of it is its own
the_one : (own e : Entry) → Contains (own ∷ []) e → own ≡ e
the_one own e (zero, below, one) = one
the_one own e (suc k, below, one) = absurd (omega (arith, below))

own_entry : (entries : List Entry) (f : Flight) (rev by : ℕ) (e : Entry) → rev ≡ length entries + 1
    → next_entry entries f.op.id.0 (committed f.op.remote) by ≡ e → IsEntryOf e (at_stage (taken (came.Accepted rev)) f)
own_entry entries f rev by e last is = subst (λ g. IsEntryOf g (at_stage (taken (came.Accepted rev)) f)) is
    (record { stage = ap (λ v. taken (came.Accepted v)) last; id = refl; value = refl })

module _ (same : ℕ → ℕ → Bool) (t : Turn) (is : IsClient t.member.client) (at : IsAt t.shared.entries t.member.client.remote)
    (alone : IsAlone same t.shared.entries t.member.client) (ready : IsReady t.member.client) (n : ℕ) (op : Op) (of : IsStartedAs n t.member.client.flights op) where
  untaken : IsUntaken of.flight.stage
  untaken = subst IsUntaken (sym of.stage) tt

  -- AT THE SERVER
  -- what else was accepted is no later than the last entry
  old_revision : (g : Flight) (rev : ℕ) → Contains t.member.client.flights g → g.stage ≡ taken (came.Accepted rev) → rev ≤ length t.shared.entries
  old_revision g rev within stage =
      let fits = All-contains (IsFlight (known_to t.member.client.remote)) t.member.client.flights g is.flights within in
      let known : rev ≤ known_to t.member.client.remote = subst (FitsStage (known_to t.member.client.remote) g.op) stage fits.stage in
      let low = at.within in
      omega (arith, known, low)

  module _ (commit : is_commit of.flight.op.effect ≡ true) where
    accepted_may : (rev by : ℕ) (now : List Entry) → rev ≡ length t.shared.entries + 1
        → now ≡ t.shared.entries ++ next_entry t.shared.entries of.flight.op.id.0 (committed of.flight.op.remote) by ∷ []
        → MayCome t.member.client.remote.cursor t.shared.entries now t.member.client.flights of.flight (taken (came.Accepted rev))
    accepted_may rev by now last grown =
        let low = at.within in
        let own : Entry = next_entry t.shared.entries of.flight.op.id.0 (committed of.flight.op.remote) by in
        let behind : drop t.member.client.remote.cursor now ≡ drop t.member.client.remote.cursor t.shared.entries ++ own ∷ [] =
        ap (drop t.member.client.remote.cursor) grown ∙ drop-append-le t.member.client.remote.cursor t.shared.entries (own ∷ []) (omega (arith, low)) in
        record {
          folder = λ disk. absurd (not_disk of.flight commit disk);
          server = λ _. tt;
          waits = λ come. let early : rev ≤ t.member.client.remote.cursor = come in absurd (omega (arith, early, last, low));
          revision = λ g other within stage e.
              let old = old_revision g other within stage in
              let one : rev ≡ other = cc in
              absurd (omega (arith, old, one, last));
          news = λ e within. elim (Contains-append_cases (drop t.member.client.remote.cursor t.shared.entries) (own ∷ []) e (subst (λ es. Contains es e) behind within)) [
            | inl old ↦ inl old
            | inr new ↦ inr (own_entry t.shared.entries of.flight rev by e last (the_one own e new))
          ];
        }

    judged_moves : (by : ℕ) (r : TakeReply) (u : Turn) → IsJudged by n (commit_of of.flight.op) t r u
        → Moves same t.shared.edits.edits u.shared.edits.edits u.shared.entries t.member.client u.member.client (reply.Took r)
    judged_moves by (took.Accepted rev) u ((accepted, last, grown), now) =
        staged_moves same t.shared.edits.edits t.shared.entries t.member.client is.numbers alone ready n of.flight of.there untaken (taken (came.Accepted rev)) u.shared.entries
        (t.member.client.remote.ahead ++ drop (length t.member.client.remote.ahead) (drop t.member.client.remote.cursor u.shared.entries))
        (accepted_may rev by u.shared.entries last grown) tt (none_other (came.Accepted rev) t.member.client.flights tt)
        u.shared.edits.edits u.shared.entries u.member.client (reply.Took (took.Accepted rev))
        (ap (λ (v : Turn). v.shared.edits.edits) now) refl (ap (λ (v : Turn). v.member.client) now) (refl, refl, refl)
    judged_moves by (took.Refused why) u (judged, now) =
        staged_moves same t.shared.edits.edits t.shared.entries t.member.client is.numbers alone ready n of.flight of.there untaken (taken (came.Refused why)) t.shared.entries
        (t.member.client.remote.ahead ++ drop (length t.member.client.remote.ahead) [])
        (record {
          folder = λ disk. absurd (not_disk of.flight commit disk);
          server = λ _. tt;
          waits = λ come. come;
          revision = λ g rev within stage e. cc;
          news = λ e within. inl within;
        }) tt (none_other (came.Refused why) t.member.client.flights tt)
        u.shared.edits.edits u.shared.entries u.member.client (reply.Took (took.Refused why))
        (ap (λ (v : Turn). v.shared.edits.edits) now) (ap (λ (v : Turn). v.shared.entries) now) (ap (λ (v : Turn). v.member.client) now) (refl, refl, refl)
    judged_moves by (took.Folder ran) u is_not = absurd is_not
    judged_moves by took.NoSuchOp u is_not = absurd is_not

  -- IN THE FOLDER
  carried_moves : is_commit of.flight.op.effect ≡ false → AreGiven t.member.client.local.keys t.member.folder.next
      → All (λ f. IsStageBelow t.member.folder.next f.stage) t.member.client.flights → (r : TakeReply) (u : Turn) → HasGoneWell r → CarriesOut n op t r u
      → Moves same t.shared.edits.edits u.shared.edits.edits u.shared.entries t.member.client u.member.client (reply.Took r)
  carried_moves outside given made (took.Folder ran) u well out =
      let from = op_from t.member.client.local.keys (unwrap_or (bytes_for t.shared op) []) _ (view_of out.faults out.made out.settled t.member) ran
      (view_of out.faults_after out.made out.settled u.member) out.runs in
      staged_moves same t.shared.edits.edits t.shared.entries t.member.client is.numbers alone ready n of.flight of.there untaken (taken (came.Folder ran.outcome)) t.shared.entries
      (t.member.client.remote.ahead ++ drop (length t.member.client.remote.ahead) [])
      (record {
        folder = λ _. well;
        server = λ commit. absurd (not_commit of.flight outside commit);
        waits = λ come. come;
        revision = λ g rev within stage e. cc;
        news = λ e within. inl within;
      }) (keys_stand t.member.folder.next t.member.client.local.keys ran.outcome given from)
      (keys_other t.member.folder.next t.member.client.flights ran.outcome made from)
      u.shared.edits.edits u.shared.entries u.member.client (reply.Took (took.Folder ran))
      (ap (λ s. s.edits.edits) out.shared) (ap (λ s. s.entries) out.shared) (ap (λ m. m.client) out.member) (refl, refl, refl)
  carried_moves outside given made (took.Accepted rev) u well is_not = absurd is_not
  carried_moves outside given made (took.Refused why) u well is_not = absurd is_not
  carried_moves outside given made took.NoSuchOp u well is_not = absurd is_not

-- THE TAKE
module _ (same : ℕ → ℕ → Bool) (t : Turn) (is : IsClient t.member.client) (at : IsAt t.shared.entries t.member.client.remote)
    (alone : IsAlone same t.shared.entries t.member.client) (ready : IsReady t.member.client) (given : AreGiven t.member.client.local.keys t.member.folder.next)
    (made : All (λ f. IsStageBelow t.member.folder.next f.stage) t.member.client.flights) (log : List LogEntry) (by n : ℕ) (r : TakeReply) (u : Turn) (well : HasGoneWell r) where
  abbrev Goes : Type 0
  Goes = Moves same t.shared.edits.edits u.shared.edits.edits u.shared.entries t.member.client u.member.client (reply.Took r)

  -- what was read is another content: this doesn't go well
  no_outdated : IsOutdated n t r u → Goes
  no_outdated (is_so, now) = let clash : false ≡ true = subst HasGoneWell is_so well in absurd (cc)

  module _ (op : Op) (of : IsStartedAs n t.member.client.flights op) where
    judged_goes : IsJudged by n (commit_of op) t r u → is_commit op.effect ≡ true → Goes
    judged_goes judged commit =
        judged_moves same t is at alone ready n op of (subst (λ (o : Op). is_commit o.effect ≡ true) (sym of.is) commit) by r u
        (subst (λ (o : Op). IsJudged by n (commit_of o) t r u) (sym of.is) judged)

    stored_goes : (bytes : List ℕ) → IsJudged by n (commit_of op) (stored bytes t) r u → is_commit op.effect ≡ true → Goes
    stored_goes bytes judged commit =
        judged_moves same (stored bytes t) is at alone ready n op of (subst (λ (o : Op). is_commit o.effect ≡ true) (sym of.is) commit) by r u
        (subst (λ (o : Op). IsJudged by n (commit_of o) (stored bytes t) r u) (sym of.is) judged)

    bytes_goes : (bytes : List ℕ) (b : Bool) → CommitsBytes by n (commit_of op) bytes b t r u → is_commit op.effect ≡ true → Goes
    bytes_goes bytes true judged commit = stored_goes bytes judged commit
    bytes_goes bytes false outdated commit = no_outdated outdated

    read_goes : (read : Option (List ℕ)) → CommitsRead by n (commit_of op) read t r u → is_commit op.effect ≡ true → Goes
    read_goes None outdated commit = no_outdated outdated
    read_goes (Some bytes) commits commit = bytes_goes bytes (is_recorded t.shared.edits.edits (content_of bytes).hash (committed op.remote)) commits commit

    commit_goes : (upload : Bool) → Commits log by n (commit_of op) upload t r u → is_commit op.effect ≡ true → Goes
    commit_goes true commits commit = read_goes (read_in by n log) commits commit
    commit_goes false judged commit = judged_goes judged commit

    by_effect : (commit : Bool) → is_commit op.effect ≡ commit → TakesBy log by n op commit t r u → Goes
    by_effect true so commits = commit_goes (is_upload op) commits so
    by_effect false so out =
        carried_moves same t is at alone ready n op of (subst (λ (o : Op). is_commit o.effect ≡ false) (sym of.is) so) given made r u well out

  by_flight : (o : Option Op) → started_of (flight_of n t.member.client.flights) ≡ o → TakesOf log by n o t r u → Goes
  by_flight None none (no_op, now) =
      still_moves same t.shared.edits.edits u.shared.edits.edits t.shared.entries u.shared.entries t.member.client u.member.client (reply.Took r)
      (ap (λ (v : Turn). v.shared.edits.edits) now) (ap (λ (v : Turn). v.shared.entries) now) (ap (λ (v : Turn). v.member.client) now) (refl, refl, refl) alone ready
  by_flight (Some op) there takes =
      by_effect op (started_found n t.member.client.flights (flight_of n t.member.client.flights) op refl there) (is_commit op.effect) refl takes

  pub take_moves : Takes log by n t r u → Goes
  take_moves takes = by_flight (started_of (flight_of n t.member.client.flights)) refl takes
