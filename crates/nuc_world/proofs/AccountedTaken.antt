-- A Take loses nothing: what a commit replaces is gone by.
use Rattle.std.specs.Prelude.{length, drop}
use Rattle.std.proofs.Common.{◌≡◌, ◌⊎◌, ◌<◌, ◌+◌, ◌++◌, ℕ, Bool, true, false, List, [], ◌∷◌, Option, Some, None, refl, sym, ◌∙◌, ap, subst, inl, arith}
use Rattle.std.proofs.lemmas.List.{append-nil, length-append}
use Rattle.std.specs.FinMap.{empty}
use Rattle.nuc_class.specs.declared.op.Effect.{Effect}
use Rattle.nuc_class.specs.declared.op.Effect.TheVariants as effect
use Rattle.nuc_class.specs.declared.op.Op.{Op}
use Rattle.nuc_blocks.specs.Blocks.{Blocks}
use Rattle.nuc_flights.specs.Flights.{flight_of, taken}
use Rattle.nuc_flights.specs.declared.taken.Taken.TheVariants as came
use Rattle.nuc_folder.specs.declared.outcome.Outcome.TheVariants as outcome
use Rattle.nuc_folder.specs.declared.outcome.Outcome.{Outcome}
use Rattle.nuc_hash.specs.Content.{content_of}
use Rattle.nuc_hash.specs.declared.digest.Digest.{Digest}
use Rattle.nuc_journal.specs.Entries.{tree_of}
use Rattle.nuc_journal.specs.Journal.{IsJournal}
use Rattle.nuc_journal.specs.declared.entry.Entry.{Entry}
use Rattle.nuc_journal.proofs.Ends.{tree_push}
use Rattle.nuc_journal.proofs.Lists.{take_all}
use Rattle.nuc_log.specs.declared.log.LogEntry.{LogEntry}
use Rattle.nuc_log.specs.declared.reply.TakeReply.{TakeReply}
use Rattle.nuc_log.specs.declared.reply.TakeReply.TheVariants as answer
use Rattle.nuc_server.specs.Judge.{IsAccepted, next_entry}
use Rattle.nuc_server.specs.WebEdits.{WebState}
use Rattle.nuc_step.specs.Client.{ClientState}
use Rattle.nuc_step.specs.Stages.{started_of}
use Rattle.nuc_step.specs.Steps.{after_take}
use Rattle.nuc_world.specs.Starts.{is_upload}
use Rattle.nuc_world.specs.State.{MemberState, Turn}
use Rattle.nuc_world.specs.Takes.{CarriesOut, Commits as CommitsAs, CommitsBytes, CommitsRead, IsCarriedOut, IsJudged, IsOutdated, Takes, TakesBy, TakesOf, commit_of, committed, is_commit, is_recorded, read_in, stored, told}
use Rattle.nuc_world.proofs.AccountedForm.{Comes, Commits, Fares, Further, GoneBy, Has, IsClear, IsEntered, IsFine, IsFineOp, IsFineStage, IsKeptJournal, IsVersion}
use Rattle.nuc_world.proofs.AccountedGrown.{clear_grown, further_by, further_same}
use Rattle.nuc_world.proofs.AccountedJournal.{one_revision, replaces_push, value_same}
use Rattle.nuc_world.proofs.AccountedQuiet.{failed_clear, fares_alone, fares_same, refused_clear, staged_at, taken_clear}
use Rattle.nuc_world.proofs.Dones.{flight_all}
use Rattle.nuc_world.proofs.Items.{all_none}
use Rattle.nuc_world.proofs.Takes.{IsFlown, flown}

is_commit_so : (e : Effect) → is_commit e ≡ true → e ≡ effect.Commit
is_commit_so effect.Commit is = refl
is_commit_so effect.Disk is = let bad : false ≡ true = is in cc
is_commit_so effect.Nothing is = let bad : false ≡ true = is in cc

module _ (s : WebState) (c : ClientState) (clear : IsClear s c) (n : ℕ) (op : Op) (of : IsFlown n c.flights op) where
  flying : IsFine s c of.flight
  flying = flight_all (IsFine s c) n c.flights of.flight of.there clear.flights

  as_commit : op.effect ≡ effect.Commit → Commits s c.local.tree op
  as_commit is = subst (IsFineOp s c op) is (subst (λ (o : Op). IsFineOp s c o o.effect) of.is flying.op)

  -- AN ACCEPTED COMMIT
  module _ (is : op.effect ≡ effect.Commit) (journal : IsJournal s.entries) (kept : IsKeptJournal s) (by : ℕ) (blocks : Blocks) (digests : List Digest)
      (accepted : IsAccepted s.entries blocks (commit_of op) digests) where
    abbrev last : Entry
    last = next_entry s.entries op.id.0 (committed op.remote) by

    abbrev Now : WebState
    Now = record s { entries = s.entries ++ last ∷ [] }

    replaced : (v : ℕ) → 0 < v → Has (tree_of s.entries) op.id.0 v → IsVersion v (committed op.remote) ⊎ GoneBy s.edits v
    replaced v some has =
        let commits = as_commit is in
        let same = one_revision s.entries journal commits.from op.id.0 (sym commits.base ∙ accepted.fresh) in
        commits.replaces v some (subst (IsVersion v) (sym same) has)

    kept_now : IsKeptJournal Now
    kept_now = replaces_push (GoneBy s.edits) s.entries empty last kept replaced

    further : Further s Now
    further = further_by s Now [] [] (last ∷ []) (sym (append-nil s.edits.edits)) (sym (append-nil s.edits.adoptions)) refl

    entered : IsEntered Now op (length s.entries + 1)
    entered =
        let size = length-append s.entries (last ∷ []) in
        record {
          within = omega (arith, size);
          gave = λ v some puts.
              subst (λ es. Has (tree_of es) op.id.0 v) (sym (take_all (length s.entries + 1) (s.entries ++ last ∷ []) (omega (arith, size))))
              (subst (λ m. Has m op.id.0 v) (sym (tree_push s.entries last)) (value_same (tree_of s.entries) op.id.0 v (committed op.remote) puts));
        }

    entered_stage : (rev : ℕ) → rev ≡ length s.entries + 1 → (o : Op) → o ≡ op → IsFineStage Now o o.effect (taken (came.Accepted rev))
    entered_stage rev at o same = subst (λ (p : Op). IsFineStage Now p p.effect (taken (came.Accepted rev))) (sym same)
        (subst (λ e. IsFineStage Now op e (taken (came.Accepted rev))) (sym is) (subst (IsEntered Now op) (sym at) entered))

    accepted_clear : (rev : ℕ) (news : List Entry) → rev ≡ length s.entries + 1 → IsClear Now (after_take n (came.Accepted rev) news c)
    accepted_clear rev news at =
        let grown : IsClear Now c = clear_grown s c Now further clear in
        taken_clear Now n (came.Accepted rev) news c
        (staged_at (IsFine Now c) n (taken (came.Accepted rev)) of.flight c.flights of.there
        (λ fine. record { op = fine.op; stage = entered_stage rev at of.flight.op of.is }) grown.flights) grown

module _ (c n : ℕ) (op : Op) (t : Turn) (journal : IsJournal t.shared.entries) (kept : IsKeptJournal t.shared) (clear : IsClear t.shared t.member.client)
    (of : IsFlown n t.member.client.flights op) where
  judged_fares : op.effect ≡ effect.Commit → (r : TakeReply) (u : Turn) → IsJudged c n (commit_of op) t r u → Fares t u
  judged_fares is (answer.Accepted rev) u ((accepted, at, entries), now) =
      let its : IsKeptJournal (Now t.shared t.member.client clear n op of is journal kept c _ _ accepted) = kept_now t.shared t.member.client clear n op of is journal kept c _ _ accepted in
      let news = drop t.member.client.remote.cursor u.shared.entries in
      let b : Turn = record {
        shared = Now t.shared t.member.client clear n op of is journal kept c _ _ accepted;
        member = told n (came.Accepted rev) news t.member;
      } in
      let same : u ≡ b = now ∙ ap (λ es. record { shared = record t.shared { entries = es }; member = told n (came.Accepted rev) news t.member }) entries in
      subst (λ (v : Turn). Fares t v) (sym same) (record {
        further = further t.shared t.member.client clear n op of is journal kept c _ _ accepted;
        local = λ v some has. inl has;
        new = [];
        recorded = sym (append-nil t.shared.edits.edits);
        comes = all_none (Comes b.shared t.member.client.local.tree);
        journal = its;
        clear = accepted_clear t.shared t.member.client clear n op of is journal kept c _ _ accepted rev news at;
      })
  judged_fares is (answer.Refused why) u (judged, now) = subst (λ (v : Turn). Fares t v) (sym now)
      (fares_alone t (record t { member = told n (came.Refused why) [] t.member }) refl kept refl (refused_clear t.shared n why [] t.member.client clear))
  judged_fares is (answer.Folder ran) u bad = absurd bad
  judged_fares is answer.NoSuchOp u bad = absurd bad

  outdated_fares : (r : TakeReply) (u : Turn) → IsOutdated n t r u → Fares t u
  outdated_fares r u (is, now) = subst (λ (v : Turn). Fares t v) (sym now)
      (fares_alone t (record t { member = told n (came.Folder outcome.Changed) [] t.member }) refl kept refl (failed_clear t.shared n outcome.Changed [] t.member.client refl clear))

  -- IN THE FOLDER
  folder_stage : (o : Outcome) (e : Effect) → is_commit e ≡ false → (p : Op) → IsFineOp t.shared t.member.client p e → IsFineStage t.shared p e (taken (came.Folder o))
  folder_stage o effect.Disk not p is = tt
  folder_stage o effect.Commit not p is = let bad : true ≡ false = not in cc
  folder_stage o effect.Nothing not p is = is

  carried_fares : is_commit op.effect ≡ false → (ran : _) (u : Turn) → IsCarriedOut n op t ran u → Fares t u
  carried_fares not ran u out =
      let d : ClientState = after_take n (came.Folder ran.outcome) [] t.member.client in
      let same : u.member.client ≡ d = ap (λ (m : MemberState). m.client) out.member in
      let flight_not : is_commit of.flight.op.effect ≡ false = ap (λ (o : Op). is_commit o.effect) of.is ∙ not in
      fares_alone t u out.shared kept (ap (λ (e : ClientState). e.local.tree) same)
      (subst (IsClear t.shared) (sym same)
      (taken_clear t.shared n (came.Folder ran.outcome) [] t.member.client
      (staged_at (IsFine t.shared t.member.client) n (taken (came.Folder ran.outcome)) of.flight t.member.client.flights of.there
      (λ fine. record { op = fine.op; stage = folder_stage ran.outcome of.flight.op.effect flight_not of.flight.op fine.op }) clear.flights) clear))

  folder_fares : is_commit op.effect ≡ false → (r : TakeReply) (u : Turn) → CarriesOut n op t r u → Fares t u
  folder_fares not (answer.Folder ran) u out = carried_fares not ran u out
  folder_fares not (answer.Accepted rev) u is = absurd is
  folder_fares not (answer.Refused why) u is = absurd is
  folder_fares not answer.NoSuchOp u is = absurd is

-- the blocks of a file don't matter
beside_blocks : (bytes : List ℕ) (t u : Turn) → Fares (stored bytes t) u → Fares t u
beside_blocks bytes t u fares = record {
  further = record { gone = fares.further.gone; same = fares.further.same; more = fares.further.more; entries = fares.further.entries };
  local = fares.local;
  new = fares.new;
  recorded = fares.recorded;
  comes = fares.comes;
  journal = fares.journal;
  clear = fares.clear;
}

module _ (c n : ℕ) (op : Op) where
  module _ (t : Turn) (journal : IsJournal t.shared.entries) (kept : IsKeptJournal t.shared) (clear : IsClear t.shared t.member.client)
      (of : IsFlown n t.member.client.flights op) (is : op.effect ≡ effect.Commit) where
    bytes_fare : (bytes : List ℕ) (same : Bool) (r : TakeReply) (u : Turn) → CommitsBytes c n (commit_of op) bytes same t r u → Fares t u
    bytes_fare bytes true r u judged =
        let b : Turn = stored bytes t in
        beside_blocks bytes t u
        (judged_fares c n op b journal kept (clear_grown t.shared t.member.client b.shared (further_same t.shared b.shared refl refl) clear) of is r u judged)
    bytes_fare bytes false r u outdated = outdated_fares c n op t journal kept clear of r u outdated

    read_fares : (read : Option (List ℕ)) (r : TakeReply) (u : Turn) → CommitsRead c n (commit_of op) read t r u → Fares t u
    read_fares None r u outdated = outdated_fares c n op t journal kept clear of r u outdated
    read_fares (Some bytes) r u commits = bytes_fare bytes (is_recorded t.shared.edits.edits (content_of bytes).hash (committed op.remote)) r u commits

    commit_fares : (log : List LogEntry) (upload : Bool) (r : TakeReply) (u : Turn) → CommitsAs log c n (commit_of op) upload t r u → Fares t u
    commit_fares log true r u commits = read_fares (read_in c n log) r u commits
    commit_fares log false r u judged = judged_fares c n op t journal kept clear of is r u judged

  by_effect : (log : List LogEntry) (t : Turn) → IsJournal t.shared.entries → IsKeptJournal t.shared → IsClear t.shared t.member.client → IsFlown n t.member.client.flights op
      → (commit : Bool) → is_commit op.effect ≡ commit → (r : TakeReply) (u : Turn) → TakesBy log c n op commit t r u → Fares t u
  by_effect log t journal kept clear of true is r u commits = commit_fares t journal kept clear of (is_commit_so op.effect is) log (is_upload op) r u commits
  by_effect log t journal kept clear of false is r u out = folder_fares c n op t journal kept clear of is r u out

by_flight : (log : List LogEntry) (c n : ℕ) (t : Turn) → IsJournal t.shared.entries → IsKeptJournal t.shared → IsClear t.shared t.member.client
    → (o : Option Op) → started_of (flight_of n t.member.client.flights) ≡ o → (r : TakeReply) (u : Turn) → TakesOf log c n o t r u → Fares t u
by_flight log c n t journal kept clear None there r u (is, now) =
    fares_same t u (ap (λ (v : Turn). v.shared) now) (ap (λ (v : Turn). v.member.client) now) kept clear
by_flight log c n t journal kept clear (Some op) there r u takes =
    by_effect c n op log t journal kept clear (flown n t.member.client.flights (flight_of n t.member.client.flights) op refl there) (is_commit op.effect) refl r u takes

pub take_fares : (log : List LogEntry) (c n : ℕ) (t u : Turn) → IsJournal t.shared.entries → IsKeptJournal t.shared → IsClear t.shared t.member.client
    → (r : TakeReply) → Takes log c n t r u → Fares t u
take_fares log c n t u journal kept clear r takes = by_flight log c n t journal kept clear (started_of (flight_of n t.member.client.flights)) refl r u takes
