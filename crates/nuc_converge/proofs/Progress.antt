-- Each step of a client that is left alone, but a plan, keeps what its trees come to.
use Rattle.std.specs.Prelude.{Contains}
use Rattle.std.proofs.Common.{◌≡◌, ◌≢◌, ◌<◌, ◌≤◌, ◌+◌, ◌-◌, ◌++◌, ℕ, Bool, true, false, List, [], ◌∷◌, length, drop, take, Option, None, Some, refl, sym, ap, subst, ◌∙◌, inl, inr, arith}
use Rattle.std.proofs.lemmas.Bool.{cases_lt}
use Rattle.std.proofs.lemmas.List.Elements.{All-contains}
use Rattle.std.specs.FinMap.{get, insert}
use Rattle.nuc_base.specs.Changes.{changed, node_after}
use Rattle.nuc_base.specs.Trees.{Nodes}
use Rattle.nuc_base.specs.declared.change.Change.{Change}
use Rattle.nuc_base.specs.declared.change.Change.TheVariants.{Keep, Put, Cut}
use Rattle.nuc_base.specs.declared.node.Node.{Node}
use Rattle.nuc_class.specs.declared.op.Op.{Op}
use Rattle.nuc_edits.specs.Edits.{Recorded}
use Rattle.nuc_flights.specs.Flights.{Flight, flight_of, started, taken, without}
use Rattle.nuc_flights.specs.declared.taken.Taken.{Taken}
use Rattle.nuc_flights.specs.declared.taken.Taken.TheVariants as came
use Rattle.nuc_folder.specs.declared.outcome.Outcome.{Outcome}
use Rattle.nuc_folder.specs.declared.outcome.Outcome.TheVariants as outcome
use Rattle.nuc_hash.specs.Content.{content_of}
use Rattle.nuc_journal.specs.Entries.{tree_after}
use Rattle.nuc_journal.specs.Journal.{IsJournal}
use Rattle.nuc_journal.specs.declared.entry.Entry.{Entry}
use Rattle.nuc_log.specs.declared.log.LogEntry.{LogEntry}
use Rattle.nuc_log.specs.declared.reply.Reply.TheVariants as reply
use Rattle.nuc_log.specs.declared.reply.StartReply.{StartReply}
use Rattle.nuc_log.specs.declared.reply.TakeReply.{TakeReply}
use Rattle.nuc_log.specs.declared.reply.TakeReply.TheVariants as took
use Rattle.nuc_replica.specs.Following.{IsAt}
use Rattle.nuc_replica.specs.Remote.{caught_up}
use Rattle.nuc_step.specs.Client.{ClientState}
use Rattle.nuc_step.specs.Order.{IsReady, KeyStands, MayLand}
use Rattle.nuc_step.specs.Planning.{CanPlan}
use Rattle.nuc_step.specs.Sound.{FitsStage, IsClient, IsFlight, known_to}
use Rattle.nuc_step.specs.Stages.{started_of}
use Rattle.nuc_step.specs.Steps.{IsDone, after_take, finished, is_split, landed, reason_of}
use Rattle.nuc_step.specs.declared.reply.DoneReply.{DoneReply}
use Rattle.nuc_step.proofs.Flying.{flight_in}
use Rattle.nuc_world.specs.Starts.{Starts, is_upload}
use Rattle.nuc_world.specs.State.{MemberState, Turn}
use Rattle.nuc_world.specs.Takes.{CarriesOut, Commits, CommitsBytes, CommitsRead, IsJudged, IsOutdated, Takes, TakesBy, TakesOf, commit_of, committed, is_commit, is_recorded, read_in, stored}
use Rattle.nuc_converge.specs.Alone.{HasBegun}
use Rattle.nuc_converge.specs.Counts.{dropped_in}
use Rattle.nuc_converge.proofs.Behind.{caught_tree, not_before, within_ahead}
use Rattle.nuc_converge.proofs.Ending.{End, end_of}
use Rattle.nuc_converge.proofs.Ending.End.{applied, dropped, nothing}
use Rattle.nuc_converge.proofs.InFlight.{HasCome, IsAlone, IsBatch, IsEntryOf, IsMend, IsOwn, IsPlaced, Means}
use Rattle.nuc_converge.proofs.InFlight.IsAlone.{batch, mend}
use Rattle.nuc_converge.proofs.InFlight.IsPlaced.{at_server, in_folder}
use Rattle.nuc_converge.proofs.InFlight.Means.{down, cut_down, up, up_came, cut_up, cut_came}
use Rattle.nuc_converge.proofs.Landing.{in_one_place, not_in_folder, one_changed}
use Rattle.nuc_converge.proofs.MendEnds.{one_comes}
use Rattle.nuc_converge.proofs.Orders.{EndsAs, EntersFor, all_enter, all_made, as_same, as_staged, made_again, made_first, nothing_new, on_local, on_remote, on_synced, swaps_local, swaps_remote, swaps_synced}
use Rattle.nuc_converge.proofs.Parts.{EntriesCome}
use Rattle.nuc_converge.proofs.Staged.{first_of}
use Rattle.nuc_converge.proofs.Starting.{starts_so}
use Rattle.nuc_converge.proofs.Undropped.{AllGoWell, done_well}
use Rattle.nuc_converge.proofs.Without.{in_flight, one_gone}

-- A START changes a stage at most
pub start_ends_as : (n : ℕ) (m : MemberState) (r : StartReply) (u : MemberState) → HasBegun r → Starts n m r u → EndsAs m.client u.client
start_ends_as n m r u begun starts = elim (starts_so n m r u begun starts) [
  | inl still ↦ as_same m.client u.client still
  | inr (at, is) ↦ as_staged m.client u.client n started m.client.remote.ahead is
]

-- A TAKE changes a stage at most, and what is ahead
data IsTaken (n : ℕ) (c d : ClientState) : Type 0 where
  stays : d ≡ c → IsTaken n c d
  comes : (t : Taken) (news : List Entry) → d ≡ after_take n t news c → IsTaken n c d

module _ (t : Turn) (log : List LogEntry) (by n : ℕ) (r : TakeReply) (u : Turn) where
  abbrev Took : Type 0
  Took = IsTaken n t.member.client u.member.client

  judged_so : (op : Op) (x : TakeReply) → IsJudged by n (commit_of op) t x u → Took
  judged_so op (took.Accepted rev) (judged, now) =
      comes (came.Accepted rev) (drop t.member.client.remote.cursor u.shared.entries) (ap (λ (v : Turn). v.member.client) now)
  judged_so op (took.Refused why) (judged, now) = comes (came.Refused why) [] (ap (λ (v : Turn). v.member.client) now)
  judged_so op (took.Folder ran) judged = absurd judged
  judged_so op took.NoSuchOp judged = absurd judged

  stored_so : (op : Op) (bytes : List ℕ) (x : TakeReply) → IsJudged by n (commit_of op) (stored bytes t) x u → Took
  stored_so op bytes (took.Accepted rev) (judged, now) =
      comes (came.Accepted rev) (drop t.member.client.remote.cursor u.shared.entries) (ap (λ (v : Turn). v.member.client) now)
  stored_so op bytes (took.Refused why) (judged, now) = comes (came.Refused why) [] (ap (λ (v : Turn). v.member.client) now)
  stored_so op bytes (took.Folder ran) judged = absurd judged
  stored_so op bytes took.NoSuchOp judged = absurd judged

  outdated_so : IsOutdated n t r u → Took
  outdated_so (so, now) = comes (came.Folder outcome.Changed) [] (ap (λ (v : Turn). v.member.client) now)

  bytes_so : (op : Op) (bytes : List ℕ) (b : Bool) → CommitsBytes by n (commit_of op) bytes b t r u → Took
  bytes_so op bytes true judged = stored_so op bytes r judged
  bytes_so op bytes false outdated = outdated_so outdated

  read_so : (op : Op) (read : Option (List ℕ)) → CommitsRead by n (commit_of op) read t r u → Took
  read_so op None outdated = outdated_so outdated
  read_so op (Some bytes) commits = bytes_so op bytes (is_recorded t.shared.edits.edits (content_of bytes).hash (committed op.remote)) commits

  commit_so : (op : Op) (upload : Bool) → Commits log by n (commit_of op) upload t r u → Took
  commit_so op true commits = read_so op (read_in by n log) commits
  commit_so op false judged = judged_so op r judged

  folder_so : (op : Op) (x : TakeReply) → CarriesOut n op t x u → Took
  folder_so op (took.Folder ran) out = comes (came.Folder ran.outcome) [] (ap (λ (m : MemberState). m.client) out.member)
  folder_so op (took.Accepted rev) out = absurd out
  folder_so op (took.Refused why) out = absurd out
  folder_so op took.NoSuchOp out = absurd out

  effect_so : (op : Op) (commit : Bool) → TakesBy log by n op commit t r u → Took
  effect_so op true commits = commit_so op (is_upload op) commits
  effect_so op false out = folder_so op r out

  op_so : (o : Option Op) → TakesOf log by n o t r u → Took
  op_so None (none, now) = stays (ap (λ (v : Turn). v.member.client) now)
  op_so (Some op) takes = effect_so op (is_commit op.effect) takes

taken_ends_as : (n : ℕ) (c d : ClientState) → IsTaken n c d → EndsAs c d
taken_ends_as n c d (stays is) = as_same c d is
taken_ends_as n c d (comes t news is) = as_staged c d n (taken t) (c.remote.ahead ++ drop (length c.remote.ahead) news) is

pub take_ends_as : (t : Turn) (log : List LogEntry) (by n : ℕ) (r : TakeReply) (u : Turn) → Takes log by n t r u → EndsAs t.member.client u.member.client
take_ends_as t log by n r u takes =
    taken_ends_as n t.member.client u.member.client (op_so t log by n r u (started_of (flight_of n t.member.client.flights)) takes)

-- WHAT ONE MEANS that the server accepted: it changes Remote, and not Local
module _ (same : ℕ → ℕ → Bool) (r l s : Nodes) (cursor : ℕ) (f : Flight) where
  put_changes : (n : Node) → f.op.remote ≡ Put n → f.op.remote ≢ Keep
  put_changes n puts keep = let clash : Put n ≡ Keep = sym puts ∙ keep in cc

  commit_changes : (rev : ℕ) → f.stage ≡ taken (came.Accepted rev) → Means same r l s cursor f → f.op.remote ≢ Keep
  commit_changes rev stage (down n at wants writes outside folder) keep = not_in_folder f rev stage folder
  commit_changes rev stage (cut_down n none at writes outside folder) keep = not_in_folder f rev stage folder
  commit_changes rev stage (up n at apart writes outside server waits) keep = put_changes n writes.remote keep
  commit_changes rev stage (up_came n in_r at writes outside has) keep = put_changes n writes.remote keep
  commit_changes rev stage (cut_up n none at writes outside server waits) keep = let clash : Cut ≡ Keep = sym writes.remote ∙ keep in cc
  commit_changes rev stage (cut_came none_r none writes outside has) keep = let clash : Cut ≡ Keep = sym writes.remote ∙ keep in cc

  local_kept : (m : Nodes) → is_split f.op.verb ≡ false → f.op.local ≡ Keep → on_local f.op m ≡ m
  local_kept m plain keep = one_changed m f.op plain ∙ ap (changed m f.op.id.0) keep

  commit_local : (rev : ℕ) → f.stage ≡ taken (came.Accepted rev) → Means same r l s cursor f → on_local f.op l ≡ l
  commit_local rev stage (down n at wants writes outside folder) = absurd (not_in_folder f rev stage folder)
  commit_local rev stage (cut_down n none at writes outside folder) = absurd (not_in_folder f rev stage folder)
  commit_local rev stage (up n at apart writes outside server waits) = local_kept l writes.one writes.local
  commit_local rev stage (up_came n in_r at writes outside has) = local_kept l writes.one writes.local
  commit_local rev stage (cut_up n none at writes outside server waits) = local_kept l writes.one writes.local
  commit_local rev stage (cut_came none_r none writes outside has) = local_kept l writes.one writes.local

  -- once its entry has come, Remote has what it writes there
  commit_came : (rev : ℕ) → f.stage ≡ taken (came.Accepted rev) → HasCome cursor f.stage → Means same r l s cursor f → on_remote f.op r ≡ r
  commit_came rev stage has (down n at wants writes outside folder) = absurd (not_in_folder f rev stage folder)
  commit_came rev stage has (cut_down n none at writes outside folder) = absurd (not_in_folder f rev stage folder)
  commit_came rev stage has (up n at apart writes outside server waits) = absurd (waits has)
  commit_came rev stage has (up_came n in_r at writes outside too) =
      nothing_new r f.op.id.0 f.op.remote (ap (λ (c : Change). node_after c (get r f.op.id.0)) writes.remote ∙ sym in_r)
  commit_came rev stage has (cut_up n none at writes outside server waits) = absurd (waits has)
  commit_came rev stage has (cut_came none_r none writes outside too) =
      nothing_new r f.op.id.0 f.op.remote (ap (λ (c : Change). node_after c (get r f.op.id.0)) writes.remote ∙ sym none_r)

  -- one that was carried out in the folder doesn't change Remote
  folder_keeps : (o : Outcome) → f.stage ≡ taken (came.Folder o) → Means same r l s cursor f → f.op.remote ≡ Keep
  folder_keeps o stage (down n at wants writes outside folder) = writes.remote
  folder_keeps o stage (cut_down n none at writes outside folder) = writes.remote
  folder_keeps o stage (up n at apart writes outside server waits) = absurd (in_one_place f o stage server)
  folder_keeps o stage (up_came n in_r at writes outside has) = absurd (subst (HasCome cursor) stage has)
  folder_keeps o stage (cut_up n none at writes outside server waits) = absurd (in_one_place f o stage server)
  folder_keeps o stage (cut_came none_r none writes outside has) = absurd (subst (HasCome cursor) stage has)

  placed_keeps : (o : Outcome) → f.stage ≡ taken (came.Folder o) → IsPlaced f.op f.stage → f.op.remote ≡ Keep
  placed_keeps o stage (in_folder disk keep well) = keep
  placed_keeps o stage (at_server node commit puts keep plain sent) = absurd (in_one_place f o stage sent)

  placed_changes : (rev : ℕ) → f.stage ≡ taken (came.Accepted rev) → IsPlaced f.op f.stage → f.op.remote ≢ Keep
  placed_changes rev stage (in_folder disk keep well) is = not_in_folder f rev stage well
  placed_changes rev stage (at_server node commit puts keep plain sent) is = put_changes node puts is

  placed_local : (rev : ℕ) → f.stage ≡ taken (came.Accepted rev) → IsPlaced f.op f.stage → on_local f.op l ≡ l
  placed_local rev stage (in_folder disk keep well) = absurd (not_in_folder f rev stage well)
  placed_local rev stage (at_server node commit puts keep plain sent) = local_kept l plain keep

-- A DONE
module _ (come : EntriesCome) (same : ℕ → ℕ → Bool) (entries : List Entry) (n next : ℕ) (c : ClientState) (journal : IsJournal entries) (at : IsAt entries c.remote)
    (client : IsClient c) (can : CanPlan c next) (ready : IsReady c) (alone : IsAlone same entries c) where
  abbrev r : Nodes
  r = c.remote.tree

  abbrev l : Nodes
  l = c.local.tree

  abbrev s : Nodes
  s = c.synced

  abbrev cursor : ℕ
  cursor = c.remote.cursor

  abbrev fs : List Flight
  fs = c.flights

  -- each entry that is ahead is that of a commit in flight
  batch_enters : IsBatch same r l s cursor entries fs → (e : Entry) → Contains (drop cursor entries) e → EntersFor fs e
  batch_enters is e within =
      let own : IsOwn fs e = is.news e within in
      record {
        f = own.f;
        flies = own.flies;
        id = own.is.id;
        value = own.is.value;
        changes = commit_changes same r l s cursor own.f e.rev own.is.stage (is.means own.f own.flies);
      }

  mend_enters : (g : Flight) → fs ≡ g ∷ [] → IsMend same r l s cursor entries g → (e : Entry) → Contains (drop cursor entries) e → EntersFor fs e
  mend_enters g only is e within =
      let its : IsEntryOf e g = is.news e within in
      record {
        f = g;
        flies = subst (λ hs. Contains hs g) (sym only) (first_of g []);
        id = its.id;
        value = its.value;
        changes = placed_changes same r l s cursor g e.rev its.stage is.placed;
      }

  enters : IsAlone same entries c → (e : Entry) → Contains (drop cursor entries) e → EntersFor fs e
  enters (batch is) = batch_enters is
  enters (mend g only is) = mend_enters g only is

  module _ (f : Flight) (there : flight_of n fs ≡ Some f) where
    within : Contains fs f
    within = in_flight n fs f there

    its_mend : (g : Flight) → fs ≡ g ∷ [] → IsMend same r l s cursor entries g → IsMend same r l s cursor entries f
    its_mend g only is = subst (IsMend same r l s cursor entries) (sym (one_gone n g f (ap (flight_of n) (sym only) ∙ there)).0) is

    -- IN THE FOLDER
    stays_in_remote : (o : Outcome) → f.stage ≡ taken (came.Folder o) → IsAlone same entries c → f.op.remote ≡ Keep
    stays_in_remote o stage (batch is) = folder_keeps same r l s cursor f o stage (is.means f within)
    stays_in_remote o stage (mend g only is) = placed_keeps same r l s cursor f o stage (its_mend g only is).placed

    folder_ends : (o : Outcome) → f.stage ≡ taken (came.Folder o) → EndsAs c (landed f.op (came.Folder o) (finished n (came.Folder o) c))
    folder_ends o stage = record {
      remote =
          made_first on_remote n fs f r there (swaps_remote c ready)
          ∙ ap (λ (d : Change). all_made on_remote (without n fs) (changed r f.op.id.0 d)) (stays_in_remote o stage alone);
      local = made_first on_local n fs f l there (swaps_local c ready);
      synced = made_first on_synced n fs f s there (swaps_synced c ready);
    }

    -- AT THE SERVER
    module _ (rev : ℕ) (stage : f.stage ≡ taken (came.Accepted rev)) where
      flight : IsFlight (known_to c.remote) f
      flight = flight_in (IsFlight (known_to c.remote)) n fs f there client.flights

      known : rev ≤ known_to c.remote
      known = subst (FitsStage (known_to c.remote) f.op) stage flight.stage

      abbrev now : Nodes
      now = (caught_up rev c.remote).tree

      stays_in_local : IsAlone same entries c → on_local f.op l ≡ l
      stays_in_local (batch is) = commit_local same r l s cursor f rev stage (is.means f within)
      stays_in_local (mend g only is) = placed_local same r l s cursor f rev stage (its_mend g only is).placed

      batch_came : IsBatch same r l s cursor entries fs → on_remote f.op now ≡ now
      batch_came is =
          let far : ℕ = rev - cursor in
          let has = come same r l s cursor far entries fs journal can.fit is
          (λ g flying. (All-contains (MayLand c) fs g ready.each flying).1.legal)
          (λ g flying. (All-contains (IsFlight (known_to c.remote)) fs g client.flights flying).op.id)
          (within_ahead entries c.remote rev at known) in
          let comes : HasCome (cursor + far) f.stage = subst (HasCome (cursor + far)) (sym stage) (not_before entries c.remote rev at known) in
          subst (λ t. on_remote f.op t ≡ t) (sym (caught_tree entries c.remote rev at known))
          (commit_came same (tree_after r (take far (drop cursor entries))) l s (cursor + far) f rev stage comes (has.batch.means f within))

      waits : IsMend same r l s cursor entries f → cursor < rev
      waits is = elim (cases_lt cursor rev) [
        | inl less ↦ less
        | inr le ↦ absurd (is.waits (subst (HasCome cursor) (sym stage) le))
      ]

      mend_came : IsMend same r l s cursor entries f → IsPlaced f.op f.stage → on_remote f.op now ≡ now
      mend_came is (in_folder disk keep well) = absurd (not_in_folder f rev stage well)
      mend_came is (at_server node commit puts keep plain sent) =
          let tree : now ≡ insert r f.op.id.0 node =
          caught_tree entries c.remote rev at known
          ∙ one_comes cursor rev entries f journal stage (waits is) is.news r node (drop cursor entries) (rev - cursor) refl puts refl
          (within_ahead entries c.remote rev at known) in
          let made : on_remote f.op r ≡ now = ap (changed r f.op.id.0) puts ∙ sym tree in
          subst (λ t. on_remote f.op t ≡ t) made (made_again f.op r)

      has_come : IsAlone same entries c → on_remote f.op now ≡ now
      has_come (batch is) = batch_came is
      has_come (mend g only is) = mend_came (its_mend g only is) (its_mend g only is).placed

      server_ends : EndsAs c (landed f.op (came.Accepted rev) (finished n (came.Accepted rev) c))
      server_ends = record {
        remote =
            sym (ap (all_made on_remote fs) (caught_tree entries c.remote rev at known)
            ∙ all_enter fs (rev - cursor) (drop cursor entries) r (swaps_remote c ready) (enters alone))
            ∙ made_first on_remote n fs f now there (swaps_remote c ready) ∙ ap (all_made on_remote (without n fs)) (has_come alone);
        local = made_first on_local n fs f l there (swaps_local c ready) ∙ ap (all_made on_local (without n fs)) (stays_in_local alone);
        synced = made_first on_synced n fs f s there (swaps_synced c ready);
      }

    landed_ends : (t : Taken) → f.stage ≡ taken t → reason_of t ≡ None → EndsAs c (landed f.op t (finished n t c))
    landed_ends (came.Folder o) stage why = folder_ends o stage
    landed_ends (came.Accepted rev) stage why = server_ends rev stage
    landed_ends (came.Refused because) stage why = cc

  ends_as : (d : ClientState) (o : Option Flight) (answer : DoneReply) → flight_of n fs ≡ o → End n c d o answer → dropped_in (reply.Done answer) ≡ 0 → EndsAs c d
  ends_as d _ _ there (nothing o is) none = as_same c d is
  ends_as d _ _ there (dropped f t why w stage because is) none = absurd (omega (arith, none))
  ends_as d _ _ there (applied f t stage why may is) none = subst (EndsAs c) (sym is) (landed_ends f there t stage why)

  pub done_ends_as : AllGoWell c → (d : ClientState) (e g : Recorded) (answer : DoneReply) → IsDone n c e answer d g → EndsAs c d
  done_ends_as well d e g answer ends =
      ends_as d (flight_of n fs) answer refl
      (end_of n c d e g (flight_of n fs) answer
      (λ h there. (flight_in (MayLand c) n fs h there ready.each, flight_in (λ k. KeyStands c.local.keys k.stage) n fs h there ready.keys)) ends)
      (done_well n c e d g well answer ends).none
