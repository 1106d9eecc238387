-- An operation that was made ends well: it is applied, and the folder matches what Local is then.
use Rattle.std.proofs.Common.{◌≡◌, ◌≢◌, ℕ, Bool, true, List, cond, Option, None, Some, refl, sym, ◌∙◌, ap, subst}
use Rattle.nuc_class.specs.declared.op.Op.{Op}
use Rattle.nuc_edits.specs.Edits.{Recorded, same_hash}
use Rattle.nuc_edits.specs.declared.edit.Edit.{Edit}
use Rattle.nuc_flights.specs.Flights.{Flight, flight_of, taken}
use Rattle.nuc_flights.specs.declared.taken.Taken.{Taken}
use Rattle.nuc_flights.specs.declared.taken.Taken.TheVariants as came
use Rattle.nuc_folder.specs.Memory.{MemState}
use Rattle.nuc_folder.specs.Outcome.{is_success}
use Rattle.nuc_folder.specs.declared.outcome.Outcome.{Outcome}
use Rattle.nuc_folder.specs.declared.outcome.Outcome.TheVariants as outcome
use Rattle.nuc_follow.specs.Matches.{Matches}
use Rattle.nuc_journal.specs.declared.entry.Entry.{Entry}
use Rattle.nuc_log.specs.declared.event.Event.TheVariants as event
use Rattle.nuc_log.specs.declared.reply.Reply.TheVariants as reply
use Rattle.nuc_replica.specs.Local.{LocalState}
use Rattle.nuc_server.specs.declared.commit.Refusal.{Refusal}
use Rattle.nuc_step.specs.Client.{ClientState}
use Rattle.nuc_step.specs.Order.{KeyStands, MayLand}
use Rattle.nuc_step.specs.Steps.{CanLand, Ends, EndsOf, finished, landed, reason_of}
use Rattle.nuc_step.specs.declared.reason.Reason.{Reason}
use Rattle.nuc_step.specs.declared.reason.Reason.TheVariants as reason
use Rattle.nuc_step.specs.declared.reply.DoneReply.{DoneReply}
use Rattle.nuc_step.specs.declared.reply.DoneReply.TheVariants as done
use Rattle.nuc_step.proofs.Flying.{flight_in}
use Rattle.nuc_world.specs.State.{MemberState, Turn}
use Rattle.nuc_converge.proofs.InFlight.{IsAlone, IsInFolder, IsPlaced}
use Rattle.nuc_converge.proofs.InFlight.IsAlone.{batch, mend}
use Rattle.nuc_converge.proofs.InFlight.IsPlaced.{at_server, in_folder}
use Rattle.nuc_converge.proofs.KeptBlocks.{done_edits}
use Rattle.nuc_converge.proofs.Landing.{in_one_place, went_well}
use Rattle.nuc_converge.proofs.Staged.{flight_there}
use Rattle.nuc_converge.proofs.Without.{one_gone}
use Rattle.nuc_quiet.proofs.OwnTurn.{own_does}
use Rattle.nuc_quiet.proofs.Parts.{DonesGoWell, local_then}

-- IN THE FOLDER nothing has gone wrong
module _ (same : ℕ → ℕ → Bool) (f : Flight) (o : Outcome) (stage : f.stage ≡ taken (came.Folder o)) where
  placed_well : (op : Op) → IsPlaced op f.stage → is_success o ≡ true
  placed_well op (in_folder disk keep well) = subst IsInFolder stage well
  placed_well op (at_server node commit puts keep plain sent) = absurd (in_one_place f o stage sent)

  mended_well : (g : Flight) → f ≡ g → IsPlaced g.op g.stage → is_success o ≡ true
  mended_well g one placed = placed_well f.op (subst (λ (h : Flight). IsPlaced h.op h.stage) (sym one) placed)

  succeeds : (entries : List Entry) (c : ClientState) (n : ℕ) → flight_of n c.flights ≡ Some f → IsAlone same entries c → is_success o ≡ true
  succeeds entries c n there (batch is) =
      went_well same c.remote.tree c.local.tree c.synced c.remote.cursor f o stage (is.means f (flight_there n c.flights f there))
  succeeds entries c n there (mend g only is) = mended_well g (one_gone n g f (ap (flight_of n) (sym only) ∙ there)).0 is.placed

-- SO THERE IS NO REASON to drop it
no_reason : (same : ℕ → ℕ → Bool) (entries : List Entry) (c : ClientState) (n : ℕ) (f : Flight) (t : Taken) → flight_of n c.flights ≡ Some f → f.stage ≡ taken t
    → IsAlone same entries c → ((why : Refusal) → t ≢ came.Refused why) → reason_of t ≡ None
no_reason same entries c n f (came.Folder o) there stage alone accepted =
    ap (λ b. cond b None (Some (reason.Folder o))) (succeeds same f o stage entries c n there alone)
no_reason same entries c n f (came.Accepted rev) there stage alone accepted = refl
no_reason same entries c n f (came.Refused why) there stage alone accepted = absurd (accepted why refl)

-- and what was planned may land
can_land : (n : ℕ) (c : ClientState) (op : Op) (t : Taken) → ((why : Refusal) → t ≢ came.Refused why) → CanLand c op (came.Folder outcome.Ok)
    → KeyStands c.local.keys (taken t) → CanLand (finished n t c) op t
can_land n c op (came.Folder o) accepted may key = (record { old = may.0.old; other = may.0.other; legal = may.0.legal; key = key }, may.1)
can_land n c op (came.Accepted rev) accepted may key = may.1
can_land n c op (came.Refused why) accepted may key = absurd (accepted why refl)

-- HOW IT ENDS
record IsApplied (n : ℕ) (op : Op) (t : Taken) (c d : ClientState) (r : DoneReply) : Type 0 where
  answer : r ≡ done.Applied
  client : d ≡ landed op t (finished n t c)

module _ (n : ℕ) (op : Op) (t : Taken) (c d : ClientState) (e g : Recorded) (may : CanLand (finished n t c) op t) where
  applied : (why : Option Reason) (r : DoneReply) → why ≡ None → Ends n op t why c e r d g → IsApplied n op t c d r
  applied None done.Applied none ends = record { answer = refl; client = ends.1 }
  applied None done.Stale none ends = absurd (ends.0 may)
  applied None (done.Dropped w) none ends = absurd ends
  applied None done.NoSuchOp none ends = absurd ends
  applied (Some why) r none ends = absurd (cc)

-- LOCAL is what was written then
landed_local : (n : ℕ) (op : Op) (t : Taken) (c : ClientState) → (landed op t (finished n t c)).local ≡ local_then op t c.local
landed_local n op (came.Folder o) c = refl
landed_local n op (came.Accepted rev) c = refl
landed_local n op (came.Refused why) c = refl

matches_after : (old edits : List Edit) (l now : LocalState) (held after : MemState) → edits ≡ old → now ≡ l → after ≡ held → Matches old l held.held
    → Matches edits now after.held
matches_after old edits l now held after kept local folder matches =
    subst (λ es. Matches es now after.held) (sym kept) (subst (λ (x : LocalState). Matches old x after.held) (sym local)
    (subst (λ (x : MemState). Matches old l x.held) (sym folder) matches))

pub dones_go_well : DonesGoWell
dones_go_well log w v c n m k answer sync t accepted step there =
    let (ends, now) = own_does log w v (event.Done c n) (reply.Done answer) m k step sync.was there in
    let f : Flight = record { op = t.op; stage = taken t.came_so } in
    let reason : reason_of t.came_so ≡ None =
    no_reason (same_hash w.shared.edits.edits) w.shared.entries m.client n f t.came_so t.flies refl sync.alone accepted in
    let may : CanLand (finished n t.came_so m.client) t.op t.came_so =
    can_land n m.client t.op t.came_so accepted (flight_in (MayLand m.client) n m.client.flights f t.flies sync.ready.each)
    (flight_in (λ (g : Flight). KeyStands m.client.local.keys g.stage) n m.client.flights f t.flies sync.ready.keys) in
    let is = applied n t.op t.came_so m.client k.client w.shared.edits v.shared.edits may (reason_of t.came_so) answer reason
    (subst (λ o. EndsOf n o m.client w.shared.edits answer k.client v.shared.edits) t.flies ends) in
    let member = ap (λ (x : Turn). x.member) now in (
      is.answer,
      ap (λ (x : MemberState). x.due.failing) member ∙ sync.nothing_fails,
      matches_after w.shared.edits.edits v.shared.edits.edits (local_then t.op t.came_so m.client.local) k.client.local m.folder k.folder
          (done_edits n m.client k.client w.shared.edits v.shared.edits answer ends)
          (ap (λ (x : ClientState). x.local) is.client ∙ landed_local n t.op t.came_so m.client)
          (ap (λ (x : MemberState). x.folder) member) t.matches,
    )
