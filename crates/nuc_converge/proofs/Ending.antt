-- A Done of a client that is left alone: what it leaves is left alone too, and what was applied lowers what is carried.
use Rattle.std.specs.Prelude.{Contains}
use Rattle.std.proofs.Common.{◌≡◌, ◌<◌, ◌≤◌, ◌+◌, ◌-◌, ℕ, Bool, true, false, cond, List, [], ◌∷◌, length, drop, take, Option, None, Some, refl, sym, ap, subst, ◌∙◌, inl, inr, arith}
use Rattle.std.proofs.lemmas.Bool.{cases_lt}
use Rattle.std.proofs.lemmas.List.Elements.{All-contains}
use Rattle.std.specs.FinMap.{get, insert}
use Rattle.nuc_base.specs.Changes.{IsLegal, changed}
use Rattle.nuc_base.specs.Ready.{all_changed}
use Rattle.nuc_base.specs.Trees.{Nodes}
use Rattle.nuc_base.proofs.Changed.{get_changed_other}
use Rattle.nuc_class.specs.declared.op.Op.{Op}
use Rattle.nuc_conflict.specs.After.{AreAfter}
use Rattle.nuc_edits.specs.Edits.{Recorded}
use Rattle.nuc_flights.specs.Flights.{Flight, Stage, flight_of, planned, started, taken, without}
use Rattle.nuc_flights.specs.declared.taken.Taken.{Taken}
use Rattle.nuc_flights.specs.declared.taken.Taken.TheVariants as came
use Rattle.nuc_folder.specs.Outcome.{is_success}
use Rattle.nuc_folder.specs.declared.outcome.Outcome.{Outcome}
use Rattle.nuc_folder.specs.declared.outcome.Outcome.TheVariants as outcome
use Rattle.nuc_journal.specs.Entries.{tree_after}
use Rattle.nuc_journal.specs.Journal.{IsJournal}
use Rattle.nuc_journal.specs.declared.entry.Entry.{Entry}
use Rattle.nuc_measure.specs.Pays.{Lowers}
use Rattle.nuc_measure.proofs.Carried.{carried_of}
use Rattle.nuc_replica.specs.Following.{IsAt}
use Rattle.nuc_replica.specs.Remote.{caught_up}
use Rattle.nuc_server.specs.declared.commit.Refusal.{Refusal}
use Rattle.nuc_step.specs.Client.{ClientState}
use Rattle.nuc_step.specs.Order.{IsReady, KeyStands, MayLand}
use Rattle.nuc_step.specs.Planning.{CanPlan}
use Rattle.nuc_step.specs.Sound.{FitsStage, IsClient, IsFlight, known_to}
use Rattle.nuc_step.specs.Steps.{CanLand, Ends, EndsAt, EndsOf, NothingToEnd, finished, landed, local_changes, reason_of}
use Rattle.nuc_step.specs.declared.reason.Reason.{Reason}
use Rattle.nuc_step.specs.declared.reason.Reason.TheVariants as reason
use Rattle.nuc_step.specs.declared.reply.DoneReply.{DoneReply}
use Rattle.nuc_step.specs.declared.reply.DoneReply.TheVariants as done
use Rattle.nuc_step.proofs.Flying.{flight_in, length_without}
use Rattle.nuc_step.proofs.StaysReady.{ready_stays_ready}
use Rattle.nuc_converge.proofs.Behind.{behind, behind_more, caught_cursor, caught_tree, not_before, within_ahead}
use Rattle.nuc_converge.proofs.InFlight.{HasCome, IsAlone, IsBatch, IsEntryOf, IsInFolder, IsMend, IsPlaced, flies}
use Rattle.nuc_converge.proofs.InFlight.IsAlone.{batch, mend}
use Rattle.nuc_converge.proofs.InFlight.IsPlaced.{at_server, in_folder}
use Rattle.nuc_converge.proofs.Landing.{batch_without, empty_batch, folder_lowers, in_one_place, keeps_lowers, not_in_folder, one_changed, server_lowers, went_well}
use Rattle.nuc_converge.proofs.MendEnds.{after_folder, after_server, mend_ends, one_comes, same_revision}
use Rattle.nuc_converge.proofs.Parts.{Carries, DonesStayAlone, EntriesCome, HasEnded}
use Rattle.nuc_converge.proofs.Without.{fewer_fly, fewer_keep, flies_bound, flies_no_more, flies_of, in_flight, one_gone}

-- HOW IT ENDS, where what was planned may land: nothing was there to end; or the outside change wasn't made; or what was planned
-- is written
pub data End (n : ℕ) (c d : ClientState) : Option Flight → DoneReply → Type 0 where
  nothing : (o : Option Flight) → d ≡ c → End n c d o done.NoSuchOp
  dropped : (f : Flight) (t : Taken) (why w : Reason) → f.stage ≡ taken t → reason_of t ≡ Some why → d ≡ finished n t c → End n c d (Some f) (done.Dropped w)
  applied : (f : Flight) (t : Taken) → f.stage ≡ taken t → reason_of t ≡ None → CanLand (finished n t c) f.op t → d ≡ landed f.op t (finished n t c)
      → End n c d (Some f) done.Applied

can_land : (n : ℕ) (c : ClientState) (op : Op) (t : Taken) → reason_of t ≡ None → CanLand c op (came.Folder outcome.Ok) → KeyStands c.local.keys (taken t)
    → CanLand (finished n t c) op t
can_land n c op (came.Folder o) why may key = (record { old = may.0.old; other = may.0.other; legal = may.0.legal; key = key }, may.1)
can_land n c op (came.Accepted rev) why may key = may.1
can_land n c op (came.Refused r) why may key = cc

module _ (n : ℕ) (c d : ClientState) (e g : Recorded) where
  end_nothing : (o : Option Flight) (r : DoneReply) → NothingToEnd c e r d g → End n c d o r
  end_nothing o done.Applied ends = absurd ends
  end_nothing o done.Stale ends = absurd ends
  end_nothing o (done.Dropped w) ends = absurd ends
  end_nothing o done.NoSuchOp ends = nothing o ends.0

  end_taken : (f : Flight) (t : Taken) (why : Option Reason) (r : DoneReply) → f.stage ≡ taken t → reason_of t ≡ why → CanLand c f.op (came.Folder outcome.Ok)
      → KeyStands c.local.keys (taken t) → Ends n f.op t why c e r d g → End n c d (Some f) r
  end_taken f t None done.Applied stage why may key ends = applied f t stage why ends.0 ends.1
  end_taken f t None done.Stale stage why may key ends = absurd (ends.0 (can_land n c f.op t why may key))
  end_taken f t None (done.Dropped w) stage why may key ends = absurd ends
  end_taken f t None done.NoSuchOp stage why may key ends = absurd ends
  end_taken f t (Some because) done.Applied stage why may key ends = absurd ends
  end_taken f t (Some because) done.Stale stage why may key ends = absurd ends
  end_taken f t (Some because) (done.Dropped w) stage why may key ends = dropped f t because w stage why ends.1
  end_taken f t (Some because) done.NoSuchOp stage why may key ends = absurd ends

  end_stage : (f : Flight) (stage : Stage) (r : DoneReply) → f.stage ≡ stage → CanLand c f.op (came.Folder outcome.Ok) → KeyStands c.local.keys stage
      → EndsAt n f.op stage c e r d g → End n c d (Some f) r
  end_stage f planned r is may key ends = end_nothing (Some f) r ends
  end_stage f started r is may key ends = end_nothing (Some f) r ends
  end_stage f (taken t) r is may key ends = end_taken f t (reason_of t) r is refl may key ends

  pub end_of : (o : Option Flight) (r : DoneReply) → ((f : Flight) → o ≡ Some f → MayLand c f × KeyStands c.local.keys f.stage) → EndsOf n o c e r d g → End n c d o r
  end_of None r may ends = end_nothing None r ends
  end_of (Some f) r may ends = let both = may f refl in end_stage f f.stage r refl both.0 both.1 ends

module _ (come : EntriesCome) (same : ℕ → ℕ → Bool) (entries : List Entry) (n next : ℕ) (c : ClientState) (journal : IsJournal entries) (at : IsAt entries c.remote)
    (client : IsClient c) (can : CanPlan c next) (ready : IsReady c) where
  abbrev r : Nodes
  r = c.remote.tree

  abbrev l : Nodes
  l = c.local.tree

  abbrev s : Nodes
  s = c.synced

  abbrev cursor : ℕ
  cursor = c.remote.cursor

  abbrev fs : List Flight
  fs = c.flights

  abbrev gs : List Flight
  gs = without n fs

  -- WHAT AN END LEAVES, and so many operations more that are applied
  record Leaves (k : ℕ) (d : ClientState) : Type 0 where
    alone : IsAlone same entries d
    pays : (a b : ℕ) → Carries same c a → Carries same d b → b + k ≤ a
    flights : d.flights ≡ gs

  pays_less : (d : ClientState) → Lowers same (flies fs) r l s (flies d.flights) d.remote.tree d.local.tree d.synced
      → (a b : ℕ) → Carries same c a → Carries same d b → b + 1 ≤ a
  pays_less d lowers a b is_a is_b =
      let bound = flies_bound fs in
      let less = lowers bound.0 a b bound.1 is_a is_b in
      omega (arith, less)

  pays_none : (a b : ℕ) → Carries same c a → Carries same (record c { flights = gs }) b → b + 0 ≤ a
  pays_none a b is_a is_b =
      let bound = flies_bound fs in
      let le = fewer_keep same (flies fs) (flies gs) r l s (fewer_fly n fs) bound.0 a b bound.1 is_a is_b in
      omega (arith, le)

  synced_legal : (f : Flight) → Contains fs f → IsLegal s f.op.id.0 f.op.synced
  synced_legal f within = (All-contains (MayLand c) fs f ready.each within).1.legal

  all_above : (f : Flight) → Contains fs f → 0 < f.op.id.0
  all_above f within = (All-contains (IsFlight (known_to c.remote)) fs f client.flights within).op.id

  module _ (f : Flight) (there : flight_of n fs ≡ Some f) where
    abbrev x : ℕ
    x = f.op.id.0

    -- the trees and the clients that it may leave
    abbrev l_now : Nodes
    l_now = all_changed l (local_changes f.op)

    abbrev s_now : Nodes
    s_now = changed s x f.op.synced

    abbrev refused_then : Refusal → ClientState
    refused_then why = finished n (came.Refused why) c

    abbrev folder_then : Outcome → ClientState
    folder_then o = landed f.op (came.Folder o) (finished n (came.Folder o) c)

    abbrev server_then : ℕ → ClientState
    server_then rev = landed f.op (came.Accepted rev) (finished n (came.Accepted rev) c)

    within : Contains fs f
    within = in_flight n fs f there

    flight : IsFlight (known_to c.remote) f
    flight = flight_in (IsFlight (known_to c.remote)) n fs f there client.flights

    -- no entry is that of an operation that was refused, or carried out in the folder
    refused_none : (why : Refusal) → f.stage ≡ taken (came.Refused why) → (e : Entry) → ¬ (IsEntryOf e f)
    refused_none why stage e its = let clash : taken (came.Accepted e.rev) ≡ taken (came.Refused why) = sym its.stage ∙ stage in cc

    folder_none : (o : Outcome) → f.stage ≡ taken (came.Folder o) → (e : Entry) → ¬ (IsEntryOf e f)
    folder_none o stage e its = let clash : taken (came.Accepted e.rev) ≡ taken (came.Folder o) = sym its.stage ∙ stage in cc

    module _ (rev : ℕ) (stage : f.stage ≡ taken (came.Accepted rev)) where
      -- the client knows the entry of one that was accepted
      known : rev ≤ known_to c.remote
      known = subst (FitsStage (known_to c.remote) f.op) stage flight.stage

      abbrev k : ℕ
      k = rev - cursor

      abbrev comes_to : Nodes
      comes_to = tree_after r (take k (drop cursor entries))

      tree_now : (caught_up rev c.remote).tree ≡ comes_to
      tree_now = caught_tree entries c.remote rev at known

      cursor_now : (caught_up rev c.remote).cursor ≡ cursor + k
      cursor_now = caught_cursor entries c.remote rev at known

      reached : rev ≤ cursor + k
      reached = not_before entries c.remote rev at known

      entry_past : (e : Entry) → Contains (drop (cursor + k) entries) e → ¬ (IsEntryOf e f)
      entry_past e comes its =
          let last : e.rev ≡ rev = same_revision f e.rev rev its.stage stage in
          let past = behind entries (cursor + k) e journal comes in
          let up_to = reached in
          omega (arith, last, past, up_to)

    -- OF A BATCH
    module _ (is : IsBatch same r l s cursor entries fs) where
      no_more : flies gs x ≡ false
      no_more = flies_no_more n fs c.next_op f client.numbers there is.one_id

      batch_refused : (why : Refusal) → f.stage ≡ taken (came.Refused why) → Leaves 0 (refused_then why)
      batch_refused why stage = record {
        alone = batch (batch_without same r l s cursor entries n fs c.next_op f is client.numbers there l s (λ y other. refl) (λ y other. refl)
            (λ e comes. refused_none why stage e));
        pays = pays_none;
        flights = refl;
      }

      batch_folder : (o : Outcome) → f.stage ≡ taken (came.Folder o) → CanLand (finished n (came.Folder o) c) f.op (came.Folder o)
          → Leaves 1 (folder_then o)
      batch_folder o stage may =
          let its = folder_lowers same (flies fs) (flies gs) (fewer_fly n fs) r l s cursor f can.fit flight.op.id no_more may.1.legal o stage may.0.legal
          (is.means f within) in
          record {
            alone = batch (batch_without same r l s cursor entries n fs c.next_op f is client.numbers there l_now s_now
                (λ y other. ap (λ (m : Nodes). get m y) (one_changed l f.op its.plain) ∙ get_changed_other l x f.op.local y other)
                (λ y other. get_changed_other s x f.op.synced y other) (λ e comes. folder_none o stage e));
            pays = pays_less (folder_then o) its.lowers;
            flights = refl;
          }

      batch_server : (rev : ℕ) → f.stage ≡ taken (came.Accepted rev) → CanLand (finished n (came.Accepted rev) c) f.op (came.Accepted rev)
          → Leaves 1 (server_then rev)
      batch_server rev stage may =
          let far : ℕ = rev - cursor in
          let m : Nodes = comes_to rev stage in
          let has = come same r l s cursor far entries fs journal can.fit is synced_legal all_above (within_ahead entries c.remote rev at (known rev stage)) in
          let comes : HasCome (cursor + far) f.stage = subst (HasCome (cursor + far)) (sym stage) (reached rev stage) in
          let its = server_lowers same (flies fs) (flies gs) (fewer_fly n fs) m l s (cursor + far) f has.fit flight.op.id no_more may.legal rev stage comes
          (flies_of fs f within) (has.batch.means f within) in
          let left = batch_without same m l s (cursor + far) entries n fs c.next_op f has.batch client.numbers there l s_now (λ y other. refl)
          (λ y other. get_changed_other s x f.op.synced y other) (entry_past rev stage) in
          record {
            alone = batch (subst (λ t. IsBatch same t l s_now (caught_up rev c.remote).cursor entries gs) (sym (tree_now rev stage))
                (subst (λ q. IsBatch same m l s_now q entries gs) (sym (cursor_now rev stage)) left));
            pays = pays_less (server_then rev)
                (subst (λ t. Lowers same (flies fs) r l s (flies gs) t l s_now) (sym (tree_now rev stage))
                (keeps_lowers same (flies fs) (flies gs) r l s m l s_now has.keeps its.lowers));
            flights = refl;
          }

    -- OF A MEND
    module _ (is : IsMend same r l s cursor entries f) (none : gs ≡ []) where
      left_empty : (nr nl ns : Nodes) (now : ℕ) → ((e : Entry) → Contains (drop now entries) e → ⊥) → IsBatch same nr nl ns now entries gs
      left_empty nr nl ns now none_behind = subst (IsBatch same nr nl ns now entries) (sym none) (empty_batch same nr nl ns now entries none_behind)

      falls : (nr nl ns : Nodes) → AreAfter r l s is.op nr nl ns → Lowers same (flies fs) r l s (flies gs) nr nl ns
      falls = mend_ends same r l s cursor entries f is next can flight.op (flies fs) (flies gs) (fewer_fly n fs) (ap (λ hs. flies hs is.op.id.0) none)

      mend_refused : (why : Refusal) → f.stage ≡ taken (came.Refused why) → Leaves 0 (refused_then why)
      mend_refused why stage = record {
        alone = batch (left_empty r l s cursor (λ e comes. refused_none why stage e (is.news e comes)));
        pays = pays_none;
        flights = refl;
      }

      mend_folder : (o : Outcome) → f.stage ≡ taken (came.Folder o) → IsPlaced f.op f.stage → Leaves 1 (folder_then o)
      mend_folder o stage (in_folder disk keep well) = record {
        alone = batch (left_empty r l_now s_now cursor (λ e comes. folder_none o stage e (is.news e comes)));
        pays = pays_less (folder_then o)
            (falls r l_now s_now (after_folder same r l s cursor entries f is disk keep));
        flights = refl;
      }
      mend_folder o stage (at_server node commit puts keep plain sent) = absurd (in_one_place f o stage sent)

      waits : (rev : ℕ) → f.stage ≡ taken (came.Accepted rev) → cursor < rev
      waits rev stage = elim (cases_lt cursor rev) [
        | inl less ↦ less
        | inr le ↦ absurd (is.waits (subst (HasCome cursor) (sym stage) le))
      ]

      none_past : (rev : ℕ) → f.stage ≡ taken (came.Accepted rev) → (e : Entry) → Contains (drop (cursor + (rev - cursor)) entries) e → ⊥
      none_past rev stage e comes = entry_past rev stage e comes (is.news e (behind_more entries cursor (rev - cursor) e comes))

      mend_server : (rev : ℕ) → f.stage ≡ taken (came.Accepted rev) → IsPlaced f.op f.stage → Leaves 1 (server_then rev)
      mend_server rev stage (in_folder disk keep well) = absurd (not_in_folder f rev stage well)
      mend_server rev stage (at_server node commit puts keep plain sent) =
          let tree : (caught_up rev c.remote).tree ≡ insert r x node =
          tree_now rev stage
          ∙ one_comes cursor rev entries f journal stage (waits rev stage) is.news r node (drop cursor entries) (rev - cursor) refl puts refl
          (within_ahead entries c.remote rev at (known rev stage)) in
          record {
            alone = batch (left_empty (caught_up rev c.remote).tree l s_now (caught_up rev c.remote).cursor
                (subst (λ q. (e : Entry) → Contains (drop q entries) e → ⊥) (sym (cursor_now rev stage)) (none_past rev stage)));
            pays = pays_less (server_then rev)
                (falls (caught_up rev c.remote).tree l s_now
                (subst (λ t. AreAfter r l s is.op t l s_now) (sym tree) (after_server same r l s cursor entries f is node commit puts keep plain)));
            flights = refl;
          }

    -- BY WHAT FLIES
    mend_is : (g : Flight) → fs ≡ g ∷ [] → (f ≡ g) × (gs ≡ [])
    mend_is g only =
        let one = one_gone n g f (ap (flight_of n) (sym only) ∙ there) in
        (one.0, ap (without n) only ∙ one.1)

    its_mend : (g : Flight) → f ≡ g → IsMend same r l s cursor entries g → IsMend same r l s cursor entries f
    its_mend g it is = subst (IsMend same r l s cursor entries) (sym it) is

    left_refused : (why : Refusal) → f.stage ≡ taken (came.Refused why) → IsAlone same entries c → Leaves 0 (refused_then why)
    left_refused why stage (batch is) = batch_refused is why stage
    left_refused why stage (mend g only is) = let both = mend_is g only in mend_refused (its_mend g both.0 is) both.1 why stage

    succeeds : (o : Outcome) → f.stage ≡ taken (came.Folder o) → IsAlone same entries c → is_success o ≡ true
    succeeds o stage (batch is) = went_well same r l s cursor f o stage (is.means f within)
    succeeds o stage (mend g only is) = placed_well (its_mend g (mend_is g only).0 is).placed
      where
        placed_well : IsPlaced f.op f.stage → is_success o ≡ true
        placed_well (in_folder disk keep well) = subst IsInFolder stage well
        placed_well (at_server node commit puts keep plain sent) = absurd (in_one_place f o stage sent)

    left_dropped : (t : Taken) (why : Reason) → f.stage ≡ taken t → reason_of t ≡ Some why → IsAlone same entries c → Leaves 0 (finished n t c)
    left_dropped (came.Folder o) why stage because alone =
        let clash : ◌≡◌ {A = Option Reason} None (Some why) = ap (λ b. cond b None (Some (reason.Folder o))) (sym (succeeds o stage alone)) ∙ because in
        cc
    left_dropped (came.Accepted rev) why stage because alone = cc
    left_dropped (came.Refused r) why stage because alone = left_refused r stage alone

    left_applied : (t : Taken) → f.stage ≡ taken t → reason_of t ≡ None → CanLand (finished n t c) f.op t → IsAlone same entries c
        → Leaves 1 (landed f.op t (finished n t c))
    left_applied (came.Folder o) stage why may (batch is) = batch_folder is o stage may
    left_applied (came.Folder o) stage why may (mend g only is) =
        let both = mend_is g only in mend_folder (its_mend g both.0 is) both.1 o stage (its_mend g both.0 is).placed
    left_applied (came.Accepted rev) stage why may (batch is) = batch_server is rev stage may
    left_applied (came.Accepted rev) stage why may (mend g only is) =
        let both = mend_is g only in mend_server (its_mend g both.0 is) both.1 rev stage (its_mend g both.0 is).placed
    left_applied (came.Refused r) stage why may alone = absurd may

  -- AS A WHOLE
  same_ended : IsAlone same entries c → HasEnded same entries c c done.NoSuchOp
  same_ended alone = record {
    alone = alone;
    ready = ready;
    pays = λ a b is_a is_b.
        let bound = flies_bound fs in
        let is : a ≡ b = (carried_of same (flies fs) r l s bound.0 bound.1).one a b is_a is_b in
        omega (arith, is);
    counts = omega arith;
  }

  dropped_ended : (f : Flight) (w : Reason) (d : ClientState) → flight_of n fs ≡ Some f → IsReady d → Leaves 0 d → HasEnded same entries c d (done.Dropped w)
  dropped_ended f w d there stays left = record {
    alone = left.alone;
    ready = stays;
    pays = left.pays;
    counts = let gone = length_without n fs f there in let are = ap length left.flights in omega (arith, gone, are);
  }

  applied_ended : (f : Flight) (d : ClientState) → flight_of n fs ≡ Some f → IsReady d → Leaves 1 d → HasEnded same entries c d done.Applied
  applied_ended f d there stays left = record {
    alone = left.alone;
    ready = stays;
    pays = left.pays;
    counts = let gone = length_without n fs f there in let are = ap length left.flights in omega (arith, gone, are);
  }

  ended : (o : Option Flight) (answer : DoneReply) (d : ClientState) → flight_of n fs ≡ o → End n c d o answer → IsAlone same entries c → IsReady d
      → HasEnded same entries c d answer
  ended _ _ d there (nothing o is) alone stays = subst (λ (b : ClientState). HasEnded same entries c b done.NoSuchOp) (sym is) (same_ended alone)
  ended _ _ d there (dropped f t why w stage because is) alone stays =
      dropped_ended f w d there stays (subst (Leaves 0) (sym is) (left_dropped f there t why stage because alone))
  ended _ _ d there (applied f t stage why may is) alone stays =
      applied_ended f d there stays (subst (Leaves 1) (sym is) (left_applied f there t stage why may alone))

pub dones_stay_alone : EntriesCome → DonesStayAlone
dones_stay_alone come same entries n next c d e f answer journal at client can alone ready ends =
    ended come same entries n next c journal at client can ready (flight_of n c.flights) answer d refl
    (end_of n c d e f (flight_of n c.flights) answer
    (λ g there. (flight_in (MayLand c) n c.flights g there ready.each, flight_in (λ h. KeyStands c.local.keys h.stage) n c.flights g there ready.keys)) ends)
    alone ((ready_stays_ready c client ready).done n d e f answer ends)
