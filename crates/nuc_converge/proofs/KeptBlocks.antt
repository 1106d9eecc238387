-- Whatever log led to a world, the server keeps the blocks of each file that an entry gave, and each content that was
-- recorded is that of some bytes.
use Rattle.std.specs.Prelude.{All, IsSomeAnd, option_to_list, replicate, unwrap_or}
use Rattle.std.proofs.Common.{◌≡◌, ◌+◌, ◌++◌, ℕ, zero, suc, Bool, true, false, List, [], ◌∷◌, Option, Some, None, refl, sym, ◌∙◌, ap, subst, inl, inr}
use Rattle.std.proofs.lemmas.List.{append-nil}
use Rattle.std.specs.FinMap.{get}
use Rattle.nuc_base.specs.declared.node.Kind.{Kind}
use Rattle.nuc_base.specs.declared.node.Kind.TheVariants.{Folder, File}
use Rattle.nuc_base.specs.declared.node.Node.{Node}
use Rattle.nuc_blocks.specs.Blocks.{Blocks, first_missing}
use Rattle.nuc_blocks.proofs.Stored.{keeps}
use Rattle.nuc_class.specs.declared.op.Effect.{Effect}
use Rattle.nuc_class.specs.declared.op.Effect.TheVariants as effect
use Rattle.nuc_class.specs.declared.op.Op.{Op}
use Rattle.nuc_class.specs.declared.op.Verb.{Verb}
use Rattle.nuc_class.specs.declared.op.Verb.TheVariants as verb
use Rattle.nuc_edits.specs.Edits.{Recorded, content_at}
use Rattle.nuc_edits.specs.declared.edit.Edit.{Edit}
use Rattle.nuc_flights.specs.Flights.{Flight, Stage, flight_of, planned, started, taken}
use Rattle.nuc_flights.specs.declared.taken.Taken.{Taken}
use Rattle.nuc_folder.specs.declared.noticed.Noticed.{Noticed}
use Rattle.nuc_hash.specs.Content.{blocks_of, content_of}
use Rattle.nuc_log.specs.declared.event.Event.{Event}
use Rattle.nuc_log.specs.declared.event.Event.TheVariants as event
use Rattle.nuc_log.specs.declared.log.LogEntry.{LogEntry}
use Rattle.nuc_log.specs.declared.reply.Reply.{Reply}
use Rattle.nuc_log.specs.declared.reply.Reply.TheVariants as reply
use Rattle.nuc_log.specs.declared.reply.StartReply.{StartReply}
use Rattle.nuc_log.specs.declared.reply.StartReply.TheVariants as start
use Rattle.nuc_log.specs.declared.reply.TakeReply.{TakeReply}
use Rattle.nuc_log.specs.declared.reply.TakeReply.TheVariants as answer
use Rattle.nuc_server.specs.Judge.{blocks_with, next_entry}
use Rattle.nuc_server.specs.WebEdits.{WebState}
use Rattle.nuc_server.specs.declared.web_edit.WebEdit.{WebEdit}
use Rattle.nuc_step.specs.Client.{ClientState}
use Rattle.nuc_step.specs.Held.{HeldData, HeldState}
use Rattle.nuc_step.specs.Planning.{IsMendedAtOnce, MendGoes, PlanAnswers, Planning}
use Rattle.nuc_step.specs.Scanning.{IsScanned}
use Rattle.nuc_step.specs.Stages.{planned_of, started_of}
use Rattle.nuc_step.specs.Steps.{Ends, EndsAt, EndsOf, IsDone, NothingToEnd, reason_of}
use Rattle.nuc_step.specs.Watching.{WatchAnswers, Watching}
use Rattle.nuc_step.specs.declared.answers.Planned.{Planned}
use Rattle.nuc_step.specs.declared.answers.Planned.TheVariants as plan
use Rattle.nuc_step.specs.declared.answers.Scanned.{Scanned}
use Rattle.nuc_step.specs.declared.answers.Scanned.TheVariants as scan
use Rattle.nuc_step.specs.declared.answers.WatchReply.{WatchReply}
use Rattle.nuc_step.specs.declared.answers.WatchReply.TheVariants as watch
use Rattle.nuc_step.specs.declared.reason.Reason.{Reason}
use Rattle.nuc_step.specs.declared.reply.DoneReply.{DoneReply}
use Rattle.nuc_step.specs.declared.reply.DoneReply.TheVariants as done
use Rattle.nuc_world.specs.Form.{IsMember, IsPutAs, IsShared, IsWorld}
use Rattle.nuc_world.specs.Runs.{IsRecounted, Reaches}
use Rattle.nuc_world.specs.Runs.Reaches.{opened, stepped, told, unlisted}
use Rattle.nuc_world.specs.Starts.{Begins, Reads, StartsOf, Uploads, is_upload, with_client}
use Rattle.nuc_world.specs.State.{Due, MemberState, Turn, WorldState, after_one, fresh, fresh_member, member_of, with_failure, with_member}
use Rattle.nuc_world.specs.Step.{Does, EditsWeb, IsStep, IsTurn, Scans, Watches, client_of, watching_of, with_watching}
use Rattle.nuc_world.specs.Takes.{CarriesOut, Commits, CommitsBytes, CommitsRead, IsCarriedOut, IsJudged, IsOutdated, TakesBy, TakesOf, bytes_for, commit_of, committed, content_in, is_commit, is_recorded, read_in, stored, view_of}
use Rattle.nuc_world.proofs.Beside.{op_keeps}
use Rattle.nuc_world.proofs.Grown.{its_member}
use Rattle.nuc_world.proofs.Items.{all_first, all_front, all_get, all_none, all_rest, all_set}
use Rattle.nuc_world.proofs.Reached.{reached_world}
use Rattle.nuc_converge.proofs.Contents.{HasContents, IsListedOf, IsNoticeOf, listing_of, user_of}
use Rattle.nuc_converge.proofs.Flown.{IsFlown, commit_known, flown}
use Rattle.nuc_converge.proofs.Recordings.{IsRecording, none_at_0, scan_records, watch_records}
use Rattle.nuc_converge.proofs.Stocked.{IsKept, IsStocked, KeepsEntry, KeepsValue, same_blocks, stocked_entered, stocked_on, stocked_so, web_stocks}

-- WHAT A TURN LEAVES
pub record IsStockedTurn (t : Turn) : Type 0 where
  pub shared : IsStocked t.shared
  pub member : HasContents t.member

-- WHAT A PLAN RECORDS are adoptions alone
mend_edits : (v : Verb) (op : Op) (p q : Planning) → IsMendedAtOnce v op p.client p.recorded q.client q.recorded → q.recorded.edits ≡ p.recorded.edits
mend_edits verb.Adopt op p q is = ap (λ (r : Recorded). r.edits) is.recorded
mend_edits _ op p q is = ap (λ (r : Recorded). r.edits) is.recorded

goes_edits : (e : Effect) (op : Op) (p q : Planning) → MendGoes e op p q → q.recorded.edits ≡ p.recorded.edits
goes_edits effect.Nothing op p q goes = mend_edits op.verb op p q goes.0
goes_edits effect.Disk op p q goes = ap (λ (r : Recorded). r.edits) goes.recorded
goes_edits effect.Commit op p q goes = ap (λ (r : Recorded). r.edits) goes.recorded

pub plan_edits : (a : Planned) (p q : Planning) → PlanAnswers p a q → q.recorded.edits ≡ p.recorded.edits
plan_edits plan.Empty p q is = ap (λ (r : Planning). r.recorded.edits) is.1
plan_edits (plan.Booked shown) p q is = ap (λ (r : Recorded). r.edits) is.noted.recorded
plan_edits (plan.Batch shown) p q is = ap (λ (r : Recorded). r.edits) is.recorded
plan_edits (plan.Mend shown) p q is = goes_edits is.op.effect is.op p q is.goes
plan_edits (plan.Busy k) p q is = ap (λ (r : Planning). r.recorded.edits) is.2

-- so are those of a Done
nothing_edits : (c d : ClientState) (e f : Recorded) (r : DoneReply) → NothingToEnd c e r d f → f.edits ≡ e.edits
nothing_edits c d e f done.NoSuchOp is = ap (λ (g : Recorded). g.edits) is.1
nothing_edits c d e f _ is = absurd is

ends_edits : (n : ℕ) (op : Op) (t : Taken) (why : Option Reason) (c d : ClientState) (e f : Recorded) (r : DoneReply) → Ends n op t why c e r d f → f.edits ≡ e.edits
ends_edits n op t None c d e f done.Applied is = ap (λ (g : Recorded). g.edits) is.2
ends_edits n op t None c d e f done.Stale is = ap (λ (g : Recorded). g.edits) is.2
ends_edits n op t None c d e f (done.Dropped w) is = absurd is
ends_edits n op t None c d e f done.NoSuchOp is = absurd is
ends_edits n op t (Some because) c d e f (done.Dropped w) is = ap (λ (g : Recorded). g.edits) is.2
ends_edits n op t (Some because) c d e f done.Applied is = absurd is
ends_edits n op t (Some because) c d e f done.Stale is = absurd is
ends_edits n op t (Some because) c d e f done.NoSuchOp is = absurd is

stage_edits : (n : ℕ) (op : Op) (s : Stage) (c d : ClientState) (e f : Recorded) (r : DoneReply) → EndsAt n op s c e r d f → f.edits ≡ e.edits
stage_edits n op planned c d e f r is = nothing_edits c d e f r is
stage_edits n op started c d e f r is = nothing_edits c d e f r is
stage_edits n op (taken t) c d e f r is = ends_edits n op t (reason_of t) c d e f r is

flight_edits : (n : ℕ) (o : Option Flight) (c d : ClientState) (e f : Recorded) (r : DoneReply) → EndsOf n o c e r d f → f.edits ≡ e.edits
flight_edits n None c d e f r is = nothing_edits c d e f r is
flight_edits n (Some flight) c d e f r is = stage_edits n flight.op flight.stage c d e f r is

pub done_edits : (n : ℕ) (c d : ClientState) (e f : Recorded) (r : DoneReply) → IsDone n c e r d f → f.edits ≡ e.edits
done_edits n c d e f r is = flight_edits n (flight_of n c.flights) c d e f r is

-- WHAT IS PENDING, and what is listed, stays as an operation begins
abbrev SameFolder : MemberState → MemberState → Type 0
SameFolder m u = (u.folder.pending ≡ m.folder.pending) × (u.listing ≡ m.listing)

same_folder : (m u v : MemberState) → u ≡ v → SameFolder m v → SameFolder m u
same_folder m u v is so = subst (SameFolder m) (sym is) so

reads_keep : (n key : ℕ) (m : MemberState) (r : StartReply) (u : MemberState) → Reads n key m r u → SameFolder m u
reads_keep n key m (start.Ok (Some bytes)) u is = same_folder m u _ is.2 (refl, refl)
reads_keep n key m (start.Ok None) u is = absurd is
reads_keep n key m start.Changed u is = same_folder m u _ is.2 (refl, refl)
reads_keep n key m start.Failed u is = same_folder m u _ is.1 (refl, refl)
reads_keep n key m start.NoSuchOp u is = absurd is

uploads_keep : (n : ℕ) (key : Option ℕ) (m : MemberState) (r : StartReply) (u : MemberState) → Uploads n key m r u → SameFolder m u
uploads_keep n (Some key) m r u is = reads_keep n key m r u is
uploads_keep n None m r u is = same_folder m u _ is.1 (refl, refl)

begins_keep : (n : ℕ) (op : Op) (upload : Bool) (m : MemberState) (r : StartReply) (u : MemberState) → Begins n op upload m r u → SameFolder m u
begins_keep n op true m r u is = uploads_keep n (get m.client.local.keys op.id.0) m r u is
begins_keep n op false m r u is = same_folder m u _ is.1 (refl, refl)

starts_keep : (n : ℕ) (o : Option Op) (m : MemberState) (r : StartReply) (u : MemberState) → StartsOf n o m r u → SameFolder m u
starts_keep n None m r u is = same_folder m u m is.1 (refl, refl)
starts_keep n (Some op) m r u is = begins_keep n op (is_upload op) m r u is

-- EACH TURN
module _ (t : Turn) (kinds : ℕ → Kind) (shared : IsShared t.shared kinds) (member : IsMember t.shared kinds t.member) (was : IsStockedTurn t) where
  -- nothing in the folder
  beside : (u : Turn) → IsStocked u.shared → u.member.folder.pending ≡ t.member.folder.pending → u.member.listing ≡ t.member.listing → IsStockedTurn u
  beside u stocked pending listing = record {
    shared = stocked;
    member = record { pending = subst (All IsNoticeOf) (sym pending) was.member.pending; listed = subst IsListedOf (sym listing) was.member.listed };
  }

  same_turn : (u v : Turn) → u ≡ v → v.shared ≡ t.shared → v.member.folder.pending ≡ t.member.folder.pending → v.member.listing ≡ t.member.listing → IsStockedTurn u
  same_turn u v is same pending listing = subst IsStockedTurn (sym is) (beside v (subst IsStocked (sym same) was.shared) pending listing)

  -- edits came
  recorded : (u : Turn) (more : List Edit) → u.shared.entries ≡ t.shared.entries → u.shared.blocks ≡ t.shared.blocks → u.shared.edits.edits ≡ t.shared.edits.edits ++ more
      → All IsRecording more → IsStocked u.shared
  recorded u more entries blocks edits all = stocked_on t.shared u.shared more edits (same_blocks t.shared.blocks u.shared.blocks blocks) entries all was.shared

  -- A SCAN
  scan_none : (u : Turn) → watching_of u ≡ watching_of t → u.member.listing ≡ None
      → u ≡ record (with_watching (watching_of u) t) { member = record (with_client u.member.client t.member) { listing = u.member.listing } } → IsStockedTurn u
  scan_none u same none now = record {
    shared = stocked_so t.shared u.shared (ap (λ (w : Watching). w.recorded.edits) same) (same_blocks t.shared.blocks u.shared.blocks (ap (λ (v : Turn). v.shared.blocks) now))
        (ap (λ (v : Turn). v.shared.entries) now) was.shared;
    member = record {
      pending = subst (All IsNoticeOf) (sym (ap (λ (v : Turn). v.member.folder.pending) now)) was.member.pending;
      listed = subst IsListedOf (sym none) tt;
    };
  }

  scan_some : (k : ℕ) (u : Turn) (held : Option HeldData) → IsListedOf held → u.member.listing ≡ None
      → IsSomeAnd held (λ h. (h.changes ≡ t.member.client.changes) × IsScanned (watching_of t) k (watching_of u) h.items)
      → u ≡ record (with_watching (watching_of u) t) { member = record (with_client u.member.client t.member) { listing = u.member.listing } } → IsStockedTurn u
  scan_some k u None of none is now = absurd is
  scan_some k u (Some h) of none is now = record {
    shared = recorded u is.1.edits (ap (λ (v : Turn). v.shared.entries) now) (ap (λ (v : Turn). v.shared.blocks) now) (ap (λ (r : Recorded). r.edits) is.1.takes.recorded)
        (scan_records (watching_of t) k (watching_of u) h.items shared.next_ver.some of is.1);
    member = record {
      pending = subst (All IsNoticeOf) (sym (ap (λ (v : Turn). v.member.folder.pending) now)) was.member.pending;
      listed = subst IsListedOf (sym none) tt;
    };
  }

  scans : (a : Scanned) (u : Turn) → Scans a t u → IsStockedTurn u
  scans scan.NoListing u ((none, dropped, same), now) = scan_none u same (ap (λ (h : HeldState). h.now) dropped) now
  scans (scan.Stale changes) u ((stale, count, dropped, same), now) = scan_none u same (ap (λ (h : HeldState). h.now) dropped) now
  scans (scan.Bad number) u ((bad, dropped, same), now) = scan_none u same (ap (λ (h : HeldState). h.now) dropped) now
  scans (scan.Changed k) u ((is, dropped), now) = scan_some k u t.member.listing was.member.listed (ap (λ (h : HeldState). h.now) dropped) is now

  -- A WATCHED CHANGE
  module _ (notice : Noticed) (notices : List Noticed) (pending : t.member.folder.pending ≡ notice ∷ notices) where
    all_pending : All IsNoticeOf (notice ∷ notices)
    all_pending = subst (All IsNoticeOf) pending was.member.pending

    watched : (u : Turn) → IsStocked u.shared → u.member.folder.pending ≡ notices → u.member.listing ≡ t.member.listing → IsStockedTurn u
    watched u stocked rest listing = record {
      shared = stocked;
      member = record {
        pending = subst (All IsNoticeOf) (sym rest) (all_rest IsNoticeOf notice notices all_pending);
        listed = subst IsListedOf (sym listing) was.member.listed;
      };
    }

    watch_answers : (a : WatchReply) (u : Turn) → WatchAnswers (watching_of t) notice a (watching_of u) → u.shared.entries ≡ t.shared.entries → u.shared.blocks ≡ t.shared.blocks
        → IsStocked u.shared
    watch_answers (watch.Changed x) u (d, leads, same, is) entries blocks =
        recorded u (option_to_list d.edit) entries blocks (ap (λ (r : Recorded). r.edits) is.recorded)
        (watch_records t.member.client.remote.tree t.member.client.local t.member.client.synced t.shared.edits.edits t.shared.ids notice d shared.next_ver.some
        (all_first IsNoticeOf notice notices all_pending) leads)
    watch_answers watch.Rescan u (none, same) entries blocks =
        stocked_so t.shared u.shared (ap (λ (w : Watching). w.recorded.edits) same) (same_blocks t.shared.blocks u.shared.blocks blocks) entries was.shared

  watches : (pending : List Noticed) (r : Reply) (u : Turn) → t.member.folder.pending ≡ pending → Watches pending r t u → IsStockedTurn u
  watches [] reply.Nothing u pending is = same_turn u t is refl refl refl
  watches [] _ u pending is = absurd is
  watches (notice ∷ notices) (reply.Watch a) u pending (answers, now) =
      watched notice notices pending u (watch_answers notice notices pending a u answers (ap (λ (v : Turn). v.shared.entries) now) (ap (λ (v : Turn). v.shared.blocks) now))
      (ap (λ (v : Turn). v.member.folder.pending) now) (ap (λ (v : Turn). v.member.listing) now)
  watches (notice ∷ notices) _ u pending is = absurd is

  -- IN THE FOLDER
  carried : (n : ℕ) (op : Op) (ran : _) (u : Turn) → IsCarriedOut n op t ran u → IsStockedTurn u
  carried n op ran u out =
      let kept = op_keeps t.member.client.local.keys (unwrap_or (bytes_for t.shared op) []) _ (view_of out.faults out.made out.settled t.member) ran
      (view_of out.faults_after out.made out.settled u.member) out.runs in
      beside u (subst IsStocked (sym out.shared) was.shared) kept.pending (ap (λ (m : MemberState). m.listing) out.member)

  carries : (n : ℕ) (op : Op) (a : TakeReply) (u : Turn) → CarriesOut n op t a u → IsStockedTurn u
  carries n op (answer.Folder ran) u out = carried n op ran u out
  carries n op (answer.Accepted rev) u is = absurd is
  carries n op (answer.Refused why) u is = absurd is
  carries n op answer.NoSuchOp u is = absurd is

outdated : (n : ℕ) (t : Turn) → IsStockedTurn t → (a : TakeReply) (u : Turn) → IsOutdated n t a u → IsStockedTurn u
outdated n t was a u (is, now) = subst IsStockedTurn (sym now) (record { shared = was.shared; member = record { pending = was.member.pending; listed = was.member.listed } })

-- A COMMIT that is accepted has its blocks
value_kept : (s : WebState) (value : Option Node) → ((n : Node) → value ≡ Some n → IsPutAs s.edits.edits n.kind n.ver.0)
    → first_missing s.blocks (blocks_with (content_in s.edits.edits value)) ≡ None → KeepsValue s value
value_kept s None known none = tt
value_kept s (Some n) known none = by n.kind (known n refl)
  where
    by : (k : Kind) → IsPutAs s.edits.edits k n.ver.0 → IsKept s.edits.edits s.blocks n.ver.0
    by Folder is = inl is
    by File is = inr (is, none)

judged : (c n : ℕ) (op : Op) (t : Turn) → IsStockedTurn t → ((node : Node) → committed op.remote ≡ Some node → IsPutAs t.shared.edits.edits node.kind node.ver.0)
    → (a : TakeReply) (u : Turn) → IsJudged c n (commit_of op) t a u → IsStockedTurn u
judged c n op t was known (answer.Accepted rev) u ((accepted, at, entries), now) =
    let its : KeepsValue t.shared (committed op.remote) = value_kept t.shared (committed op.remote) known accepted.kept in
    let edits : u.shared.edits.edits ≡ t.shared.edits.edits ++ [] = ap (λ (v : Turn). v.shared.edits.edits) now ∙ sym (append-nil t.shared.edits.edits) in
    let blocks : u.shared.blocks ≡ t.shared.blocks = ap (λ (v : Turn). v.shared.blocks) now in
    record {
      shared = stocked_entered t.shared u.shared [] edits (same_blocks t.shared.blocks u.shared.blocks blocks) (next_entry t.shared.entries op.id.0 (committed op.remote) c) entries
          (all_none IsRecording) (later t.shared u.shared edits blocks (committed op.remote) its) was.shared;
      member = subst HasContents (sym (ap (λ (v : Turn). v.member) now)) (record { pending = was.member.pending; listed = was.member.listed });
    }
  where
    later : (s r : WebState) → r.edits.edits ≡ s.edits.edits ++ [] → r.blocks ≡ s.blocks → (o : Option Node) → KeepsValue s o → KeepsValue r o
    later s r edits blocks None is = tt
    later s r edits blocks (Some node) is = subst (λ es. IsKept es r.blocks node.ver.0) (sym (edits ∙ append-nil s.edits.edits))
        (subst (λ (b : Blocks). IsKept s.edits.edits b node.ver.0) (sym blocks) is)
judged c n op t was known (answer.Refused why) u (is, now) = subst IsStockedTurn (sym now)
    (record { shared = was.shared; member = record { pending = was.member.pending; listed = was.member.listed } })
judged c n op t was known (answer.Folder ran) u is = absurd is
judged c n op t was known answer.NoSuchOp u is = absurd is

module _ (c n : ℕ) (op : Op) (t : Turn) (was : IsStockedTurn t) (known : (node : Node) → committed op.remote ≡ Some node → IsPutAs t.shared.edits.edits node.kind node.ver.0) where
  -- the blocks of the file come to the store
  with_bytes : (bytes : List ℕ) → IsStockedTurn (stored bytes t)
  with_bytes bytes = record {
    shared = stocked_so t.shared (stored bytes t).shared refl (keeps (blocks_of bytes) t.shared.blocks (stored bytes t).shared.blocks refl) refl was.shared;
    member = was.member;
  }

  by_bytes : (bytes : List ℕ) (same : Bool) (a : TakeReply) (u : Turn) → CommitsBytes c n (commit_of op) bytes same t a u → IsStockedTurn u
  by_bytes bytes true a u is = judged c n op (stored bytes t) (with_bytes bytes) known a u is
  by_bytes bytes false a u is = outdated n t was a u is

  by_read : (read : Option (List ℕ)) (a : TakeReply) (u : Turn) → CommitsRead c n (commit_of op) read t a u → IsStockedTurn u
  by_read None a u is = outdated n t was a u is
  by_read (Some bytes) a u is = by_bytes bytes (is_recorded t.shared.edits.edits (content_of bytes).hash (committed op.remote)) a u is

  by_upload : (log : List LogEntry) (upload : Bool) (a : TakeReply) (u : Turn) → Commits log c n (commit_of op) upload t a u → IsStockedTurn u
  by_upload log true a u is = by_read (read_in c n log) a u is
  by_upload log false a u is = judged c n op t was known a u is

module _ (log : List LogEntry) (t : Turn) (kinds : ℕ → Kind) (shared : IsShared t.shared kinds) (member : IsMember t.shared kinds t.member) (was : IsStockedTurn t) where
  by_effect : (c n : ℕ) (op : Op) → IsFlown n t.member.client.flights op → (commit : Bool) (a : TakeReply) (u : Turn) → TakesBy log c n op commit t a u → IsStockedTurn u
  by_effect c n op of true a u is =
      by_upload c n op t was (λ node at. (commit_known t.shared kinds t.member member n op of node at).put) log (is_upload op) a u is
  by_effect c n op of false a u is = carries t kinds shared member was n op a u is

  by_flight : (c n : ℕ) (o : Option Op) → started_of (flight_of n t.member.client.flights) ≡ o → (a : TakeReply) (u : Turn) → TakesOf log c n o t a u → IsStockedTurn u
  by_flight c n None at a u is = same_turn t kinds shared member was u t is.1 refl refl refl
  by_flight c n (Some op) at a u is =
      by_effect c n op (flown n t.member.client.flights (flight_of n t.member.client.flights) op refl at) (is_commit op.effect) a u is

  -- BY THE EVENT
  does_stock : (u : Turn) (e : Event) (r : Reply) → Does log e r t u → IsStockedTurn u
  does_stock u (event.User c edit) (reply.User a) does = subst IsStockedTurn (sym does.2) (record {
    shared = was.shared;
    member = record { pending = user_of edit t.member.folder a u.member.folder was.member.pending does.0; listed = was.member.listed };
  })
  does_stock u (event.User c edit) _ does = absurd does
  does_stock u (event.List c) (reply.Listed changes items) does = subst IsStockedTurn (sym does.now) (record {
    shared = was.shared;
    member = record { pending = all_none IsNoticeOf; listed = listing_of t.member.folder.held items does.items_are };
  })
  does_stock u (event.List c) _ does = absurd does
  does_stock u (event.Scan c) (reply.Scan a) does = scans t kinds shared member was a u does
  does_stock u (event.Scan c) _ does = absurd does
  does_stock u (event.Watch c) r does = watches t kinds shared member was t.member.folder.pending r u refl does
  does_stock u (event.Pull c) (reply.Pulled entries cursor) does = same_turn t kinds shared member was u _ does.now refl refl refl
  does_stock u (event.Pull c) _ does = absurd does
  does_stock u (event.Plan c) (reply.Plan a) does =
      beside t kinds shared member was u
      (stocked_so t.shared u.shared (plan_edits a _ _ does.0) (same_blocks t.shared.blocks u.shared.blocks (ap (λ (v : Turn). v.shared.blocks) does.1))
      (ap (λ (v : Turn). v.shared.entries) does.1) was.shared)
      (ap (λ (v : Turn). v.member.folder.pending) does.1) (ap (λ (v : Turn). v.member.listing) does.1)
  does_stock u (event.Plan c) _ does = absurd does
  does_stock u (event.Start c n) (reply.Started a) does =
      let kept = starts_keep n (planned_of (flight_of n t.member.client.flights)) t.member a u.member does.0 in
      beside t kinds shared member was u (subst IsStocked (sym does.1) was.shared) kept.0 kept.1
  does_stock u (event.Start c n) _ does = absurd does
  does_stock u (event.Take c n) (reply.Took a) does = by_flight c n (started_of (flight_of n t.member.client.flights)) refl a u does
  does_stock u (event.Take c n) _ does = absurd does
  does_stock u (event.Done c n) (reply.Done a) does =
      beside t kinds shared member was u
      (stocked_so t.shared u.shared (done_edits n t.member.client u.member.client t.shared.edits u.shared.edits a does.0)
      (same_blocks t.shared.blocks u.shared.blocks (ap (λ (v : Turn). v.shared.blocks) does.1)) (ap (λ (v : Turn). v.shared.entries) does.1) was.shared)
      (ap (λ (v : Turn). v.member.folder.pending) does.1) (ap (λ (v : Turn). v.member.listing) does.1)
  does_stock u (event.Done c n) _ does = absurd does
  does_stock u (event.Restart c) reply.Restarted does = subst IsStockedTurn (sym does) (record {
    shared = was.shared;
    member = record { pending = was.member.pending; listed = tt };
  })
  does_stock u (event.Restart c) _ does = absurd does
  does_stock u (event.Mark c) (reply.Marked a) does = same_turn t kinds shared member was u t does.1 refl refl refl
  does_stock u (event.Mark c) _ does = absurd does
  does_stock u (event.Web edit) r does = absurd does

-- A WORLD
pub record IsStockedWorld (w : WorldState) : Type 0 where
  pub shared : IsStocked w.shared
  pub members : All HasContents w.members

member_has : (c : ℕ) (ms : List MemberState) (m : MemberState) → All HasContents ms → member_of c ms ≡ Some m → HasContents m
member_has zero ms m all at = cc
member_has (suc i) ms m all at = all_get HasContents ms i m all at

members_with : (c : ℕ) (ms : List MemberState) (m : MemberState) → All HasContents ms → HasContents m → All HasContents (with_member c m ms)
members_with zero ms m all its = all
members_with (suc i) ms m all its = all_set HasContents ms i m all its

turn_stocks : (log : List LogEntry) (w v : WorldState) (e : Event) (r : Reply) → IsWorld w → IsStockedWorld w → IsTurn log e r w v → IsStockedWorld v
turn_stocks log w v e r world was turn =
    let t : Turn = record { shared = w.shared; member = turn.member } in
    let u : Turn = record { shared = v.shared; member = turn.after } in
    let its : IsStockedTurn t = record { shared = was.shared; member = member_has (client_of e) w.members turn.member was.members turn.was } in
    let so = does_stock log t world.kind_of world.shared (its_member w world (client_of e) turn.member turn.was) its u e r turn.does in
    record {
      shared = so.shared;
      members = subst (All HasContents) (sym turn.now) (members_with (client_of e) w.members turn.after was.members so.member);
    }

web_stocks_world : (edit : WebEdit) (r : Reply) (w v : WorldState) → IsWorld w → IsStockedWorld w → EditsWeb edit r w v → IsStockedWorld v
web_stocks_world edit (reply.Web a) w v world was is = record {
  shared = web_stocks w.shared v.shared world.kind_of world.shared was.shared edit a is.0;
  members = subst (All HasContents) (sym is.2) was.members;
}
web_stocks_world edit _ w v world was is = absurd is

steps_stock : (log : List LogEntry) (w v : WorldState) (e : Event) (r : Reply) → IsWorld w → IsStockedWorld w → IsStep log w e r v → IsStockedWorld v
steps_stock log w v (event.Web edit) r world was step = web_stocks_world edit r w v world was step
steps_stock log w v (event.User c edit) r world was step = turn_stocks log w v (event.User c edit) r world was step
steps_stock log w v (event.List c) r world was step = turn_stocks log w v (event.List c) r world was step
steps_stock log w v (event.Scan c) r world was step = turn_stocks log w v (event.Scan c) r world was step
steps_stock log w v (event.Watch c) r world was step = turn_stocks log w v (event.Watch c) r world was step
steps_stock log w v (event.Pull c) r world was step = turn_stocks log w v (event.Pull c) r world was step
steps_stock log w v (event.Plan c) r world was step = turn_stocks log w v (event.Plan c) r world was step
steps_stock log w v (event.Start c n) r world was step = turn_stocks log w v (event.Start c n) r world was step
steps_stock log w v (event.Take c n) r world was step = turn_stocks log w v (event.Take c n) r world was step
steps_stock log w v (event.Done c n) r world was step = turn_stocks log w v (event.Done c n) r world was step
steps_stock log w v (event.Restart c) r world was step = turn_stocks log w v (event.Restart c) r world was step
steps_stock log w v (event.Mark c) r world was step = turn_stocks log w v (event.Mark c) r world was step

recounted_stocks : (c : ℕ) (count : Due → Due) (w v : WorldState) → IsStockedWorld w → IsRecounted c count w v → IsStockedWorld v
recounted_stocks c count w v was is =
    let m = member_has c w.members is.member was.members is.was in
    subst IsStockedWorld (sym is.now) (record {
      shared = was.shared;
      members = members_with c w.members (record is.member { due = count is.member.due }) was.members (record { pending = m.pending; listed = m.listed });
    })

all_alike : (n : ℕ) (m : MemberState) → HasContents m → All HasContents (replicate n m)
all_alike zero m its = all_none HasContents
all_alike (suc n) m its = all_front HasContents m (replicate n m) its (all_alike n m its)

opens_stocked : (clients : ℕ) → IsStockedWorld (fresh clients)
opens_stocked clients = record {
  shared = record { edits = all_none IsRecording; entries = all_none (KeepsEntry (fresh clients).shared) };
  members = all_alike clients fresh_member (record { pending = all_none IsNoticeOf; listed = tt });
}

pub reached_stocked : (log : List LogEntry) (w : WorldState) → Reaches log w → IsStockedWorld w
reached_stocked _ _ (opened clients some few) = opens_stocked clients
reached_stocked _ v (stepped log w e r _ before step) = steps_stock log w v e r (reached_world log w before) (reached_stocked log w before) step
reached_stocked log v (told _ w c k _ before some is) = recounted_stocks c (with_failure k) w v (reached_stocked log w before) is
reached_stocked log v (unlisted _ w c _ before is) = recounted_stocks c after_one w v (reached_stocked log w before) is.counted

-- NO BLOCK IS MISSING of what was kept
pub value_blocks : (s : WebState) → All IsRecording s.edits.edits → (o : Option Node) → KeepsValue s o → first_missing s.blocks (blocks_with (content_in s.edits.edits o)) ≡ None
value_blocks s all None is = refl
value_blocks s all (Some n) (inl nothing) =
    ap (λ v. first_missing s.blocks (blocks_with (content_at s.edits.edits v))) nothing ∙ ap (λ o. first_missing s.blocks (blocks_with o)) (none_at_0 s.edits.edits all)
value_blocks s all (Some n) (inr (was, none)) = none

-- of what an entry gave none is
pub blocks_are_kept : (log : List LogEntry) (w : WorldState) → Reaches log w
    → All (λ e. first_missing w.shared.blocks (blocks_with (content_in w.shared.edits.edits e.value)) ≡ None) w.shared.entries
blocks_are_kept log w reaches =
    let is = (reached_stocked log w reaches).shared in
    λ k d below. value_blocks w.shared is.edits _ (is.entries k d below)
