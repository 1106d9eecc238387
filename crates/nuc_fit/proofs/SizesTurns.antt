-- Each turn of a client keeps what is shared and its folder short.
use Rattle.std.specs.Prelude.{All, IsSomeAnd, is_some, option_to_list, unwrap_or}
use Rattle.std.proofs.Common.{◌≡◌, ◌++◌, ℕ, Bool, true, false, List, [], ◌∷◌, Option, Some, None, refl, sym, ap, subst}
use Rattle.std.proofs.lemmas.List.Elements.{All-append, All-head, All-nil, All-tail}
use Rattle.std.specs.FinMap.{get}
use Rattle.nuc_class.specs.declared.op.Op.{Op}
use Rattle.nuc_edits.specs.Edits.{Recorded}
use Rattle.nuc_edits.specs.declared.edit.Edit.{Edit}
use Rattle.nuc_filework.specs.Calls.{calls_of}
use Rattle.nuc_flights.specs.Flights.{flight_of}
use Rattle.nuc_folder.specs.declared.noticed.Noticed.{Noticed}
use Rattle.nuc_hash.specs.Content.{content_of}
use Rattle.nuc_log.specs.declared.event.Event.{Event}
use Rattle.nuc_log.specs.declared.event.Event.TheVariants as event
use Rattle.nuc_log.specs.declared.log.LogEntry.{LogEntry}
use Rattle.nuc_log.specs.declared.reply.Reply.{Reply}
use Rattle.nuc_log.specs.declared.reply.Reply.TheVariants as reply
use Rattle.nuc_log.specs.declared.reply.StartReply.{StartReply}
use Rattle.nuc_log.specs.declared.reply.StartReply.TheVariants as start
use Rattle.nuc_log.specs.declared.reply.TakeReply.{TakeReply}
use Rattle.nuc_log.specs.declared.reply.TakeReply.TheVariants as answer
use Rattle.nuc_step.specs.Held.{HeldData, HeldState}
use Rattle.nuc_step.specs.Scanning.{IsScanned}
use Rattle.nuc_step.specs.Stages.{planned_of, started_of}
use Rattle.nuc_step.specs.Watching.{WatchAnswers, Watching}
use Rattle.nuc_step.specs.declared.answers.Scanned.{Scanned}
use Rattle.nuc_step.specs.declared.answers.Scanned.TheVariants as scan
use Rattle.nuc_step.specs.declared.answers.WatchReply.{WatchReply}
use Rattle.nuc_step.specs.declared.answers.WatchReply.TheVariants as watch
use Rattle.nuc_world.specs.Starts.{Begins, Reads, StartsOf, Uploads, is_upload, with_client}
use Rattle.nuc_world.specs.State.{MemberState, Turn}
use Rattle.nuc_world.specs.Step.{Does, Scans, Watches, watching_of, with_watching}
use Rattle.nuc_world.specs.Takes.{CarriesOut, Commits, CommitsBytes, CommitsRead, IsCarriedOut, IsJudged, IsOutdated, TakesBy, TakesOf, bytes_for, commit_of, committed, is_commit, is_recorded, read_in, seen_content, stored, view_of, wanted_content}
use Rattle.nuc_world.proofs.Beside.{op_keeps}
use Rattle.nuc_converge.proofs.KeptBlocks.{done_edits, plan_edits}
use Rattle.nuc_fit.specs.Bounds.{FitsEvent}
use Rattle.nuc_fit.proofs.SizesCalls.{op_short}
use Rattle.nuc_fit.proofs.SizesFolder.{IsFewItem, IsFewNotice, StaysShort, listing_few, user_short}
use Rattle.nuc_fit.proofs.SizesRecorded.{PutsFew, scan_few, watch_few}
use Rattle.nuc_fit.proofs.SizesShort.{IsShortBlock, bytes_stored}
use Rattle.nuc_fit.proofs.SizesWeb.{SharesShort}
use Rattle.nuc_fit.proofs.SizesWritten.{bytes_few}

-- A MEMBER: its folder, and the listing that it holds
abbrev pub IsFewListing : Option HeldData → Type 0
IsFewListing None = Unit {0}
IsFewListing (Some listing) = All IsFewItem listing.items

pub record MemberIsShort (m : MemberState) : Type 0 where
  pub folder : StaysShort m.folder
  pub listed : IsFewListing m.listing

pub record TurnIsShort (t : Turn) : Type 0 where
  pub shared : SharesShort t.shared
  pub member : MemberIsShort t.member

-- AS AN OPERATION BEGINS the folder stays, and the listing
abbrev SameFolder : MemberState → MemberState → Type 0
SameFolder m u = (u.folder ≡ m.folder) × (u.listing ≡ m.listing)

same_folder : (m u v : MemberState) → u ≡ v → SameFolder m v → SameFolder m u
same_folder m u v is so = subst (SameFolder m) (sym is) so

reads_keep : (n key : ℕ) (m : MemberState) (r : StartReply) (u : MemberState) → Reads n key m r u → SameFolder m u
reads_keep n key m (start.Ok (Some bytes)) u is = same_folder m u _ is.2 (refl, refl)
reads_keep n key m (start.Ok None) u is = absurd is
reads_keep n key m start.Changed u is = same_folder m u _ is.2 (refl, refl)
reads_keep n key m start.Failed u is = same_folder m u _ is.1 (refl, refl)
reads_keep n key m start.NoSuchOp u is = absurd is

uploads_keep : (n : ℕ) (key : Option ℕ) (m : MemberState) (r : StartReply) (u : MemberState) → Uploads n key m r u → SameFolder m u
uploads_keep n (Some key) m r u is = reads_keep n key m r u is
uploads_keep n None m r u is = same_folder m u _ is.1 (refl, refl)

begins_keep : (n : ℕ) (op : Op) (upload : Bool) (m : MemberState) (r : StartReply) (u : MemberState) → Begins n op upload m r u → SameFolder m u
begins_keep n op true m r u is = uploads_keep n (get m.client.local.keys op.id.0) m r u is
begins_keep n op false m r u is = same_folder m u _ is.1 (refl, refl)

starts_keep : (n : ℕ) (o : Option Op) (m : MemberState) (r : StartReply) (u : MemberState) → StartsOf n o m r u → SameFolder m u
starts_keep n None m r u is = same_folder m u m is.1 (refl, refl)
starts_keep n (Some op) m r u is = begins_keep n op (is_upload op) m r u is

-- EACH TURN
module _ (t : Turn) (was : TurnIsShort t) where
  -- the folder stays, and the listing
  beside : (u : Turn) → SharesShort u.shared → u.member.folder ≡ t.member.folder → u.member.listing ≡ t.member.listing → TurnIsShort u
  beside u shared folder listing = record {
    shared = shared;
    member = record { folder = subst StaysShort (sym folder) was.member.folder; listed = subst IsFewListing (sym listing) was.member.listed };
  }

  same_turn : (u v : Turn) → u ≡ v → v.shared ≡ t.shared → v.member.folder ≡ t.member.folder → v.member.listing ≡ t.member.listing → TurnIsShort u
  same_turn u v is same folder listing = subst TurnIsShort (sym is) (beside v (subst SharesShort (sym same) was.shared) folder listing)

  -- edits came, or none
  recorded : (u : Turn) (more : List Edit) → u.shared.blocks ≡ t.shared.blocks → u.shared.edits.edits ≡ t.shared.edits.edits ++ more → All PutsFew more → SharesShort u.shared
  recorded u more blocks edits few = record {
    edits = subst (All PutsFew) (sym edits) (All-append PutsFew t.shared.edits.edits more was.shared.edits few);
    blocks = subst (All IsShortBlock) (sym blocks) was.shared.blocks;
  }

  unrecorded : (u : Turn) → u.shared.blocks ≡ t.shared.blocks → u.shared.edits.edits ≡ t.shared.edits.edits → SharesShort u.shared
  unrecorded u blocks edits = record { edits = subst (All PutsFew) (sym edits) was.shared.edits; blocks = subst (All IsShortBlock) (sym blocks) was.shared.blocks }

  -- A SCAN leaves no listing
  scanned : (u : Turn) → SharesShort u.shared → u.member.listing ≡ None
      → u ≡ record (with_watching (watching_of u) t) { member = record (with_client u.member.client t.member) { listing = u.member.listing } } → TurnIsShort u
  scanned u shared none now = record {
    shared = shared;
    member = record {
      folder = subst StaysShort (sym (ap (λ (v : Turn). v.member.folder) now)) was.member.folder;
      listed = subst IsFewListing (sym none) tt;
    };
  }

  scan_none : (u : Turn) → watching_of u ≡ watching_of t → u.member.listing ≡ None
      → u ≡ record (with_watching (watching_of u) t) { member = record (with_client u.member.client t.member) { listing = u.member.listing } } → TurnIsShort u
  scan_none u same none now =
      scanned u (unrecorded u (ap (λ (v : Turn). v.shared.blocks) now) (ap (λ (w : Watching). w.recorded.edits) same)) none now

  scan_some : (k : ℕ) (u : Turn) (held : Option HeldData) → IsFewListing held → u.member.listing ≡ None
      → IsSomeAnd held (λ h. (h.changes ≡ t.member.client.changes) × IsScanned (watching_of t) k (watching_of u) h.items)
      → u ≡ record (with_watching (watching_of u) t) { member = record (with_client u.member.client t.member) { listing = u.member.listing } } → TurnIsShort u
  scan_some k u None few none is now = absurd is
  scan_some k u (Some h) few none is now =
      scanned u (recorded u is.1.edits (ap (λ (v : Turn). v.shared.blocks) now) (ap (λ (r : Recorded). r.edits) is.1.takes.recorded)
      (scan_few (watching_of t) k (watching_of u) h.items few is.1)) none now

  scans : (a : Scanned) (u : Turn) → Scans a t u → TurnIsShort u
  scans scan.NoListing u ((none, dropped, same), now) = scan_none u same (ap (λ (h : HeldState). h.now) dropped) now
  scans (scan.Stale changes) u ((stale, count, dropped, same), now) = scan_none u same (ap (λ (h : HeldState). h.now) dropped) now
  scans (scan.Bad number) u ((bad, dropped, same), now) = scan_none u same (ap (λ (h : HeldState). h.now) dropped) now
  scans (scan.Changed k) u ((is, dropped), now) = scan_some k u t.member.listing was.member.listed (ap (λ (h : HeldState). h.now) dropped) is now

  -- A WATCHED CHANGE is pending no more
  module _ (notice : Noticed) (notices : List Noticed) (pending : t.member.folder.pending ≡ notice ∷ notices) where
    all_pending : All IsFewNotice (notice ∷ notices)
    all_pending = subst (All IsFewNotice) pending was.member.folder.pending

    watched : (u : Turn) → SharesShort u.shared → u.member.folder ≡ record t.member.folder { pending = notices } → u.member.listing ≡ t.member.listing → TurnIsShort u
    watched u shared folder listing = record {
      shared = shared;
      member = record {
        folder = subst StaysShort (sym folder) (record { held = was.member.folder.held; pending = All-tail IsFewNotice notice notices all_pending });
        listed = subst IsFewListing (sym listing) was.member.listed;
      };
    }

    watch_answers : (a : WatchReply) (u : Turn) → WatchAnswers (watching_of t) notice a (watching_of u) → u.shared.blocks ≡ t.shared.blocks → SharesShort u.shared
    watch_answers (watch.Changed x) u (d, leads, same, is) blocks =
        recorded u (option_to_list d.edit) blocks (ap (λ (r : Recorded). r.edits) is.recorded)
        (watch_few t.member.client.remote.tree t.member.client.local t.member.client.synced t.shared.edits.edits t.shared.ids notice d
        (All-head IsFewNotice notice notices all_pending) leads)
    watch_answers watch.Rescan u (none, same) blocks = unrecorded u blocks (ap (λ (w : Watching). w.recorded.edits) same)

  watches : (pending : List Noticed) (r : Reply) (u : Turn) → t.member.folder.pending ≡ pending → Watches pending r t u → TurnIsShort u
  watches [] reply.Nothing u pending is = same_turn u t is refl refl refl
  watches [] _ u pending is = absurd is
  watches (notice ∷ notices) (reply.Watch a) u pending (answers, now) =
      watched notice notices pending u (watch_answers notice notices pending a u answers (ap (λ (v : Turn). v.shared.blocks) now))
      (ap (λ (v : Turn). v.member.folder) now) (ap (λ (v : Turn). v.member.listing) now)
  watches (notice ∷ notices) _ u pending is = absurd is

  -- IN THE FOLDER
  carried : (n : ℕ) (op : Op) (ran : _) (u : Turn) → IsCarriedOut n op t ran u → TurnIsShort u
  carried n op ran u out =
      let keys = t.member.client.local.keys in
      let bytes = unwrap_or (bytes_for t.shared op) [] in
      let calls = calls_of keys op (seen_content t.shared.edits.edits op) (wanted_content t.shared.edits.edits op) (is_some (bytes_for t.shared op)) in
      let before = view_of out.faults out.made out.settled t.member in
      let after = view_of out.faults_after out.made out.settled u.member in
      let kept = op_keeps keys bytes calls before ran after out.runs in
      record {
        shared = subst SharesShort (sym out.shared) was.shared;
        member = record {
          folder = record {
            held = op_short bytes (bytes_few t.shared op was.shared) keys calls before ran after out.runs was.member.folder.held;
            pending = subst (All IsFewNotice) (sym kept.pending) was.member.folder.pending;
          };
          listed = subst IsFewListing (sym (ap (λ (m : MemberState). m.listing) out.member)) was.member.listed;
        };
      }

  carries : (n : ℕ) (op : Op) (a : TakeReply) (u : Turn) → CarriesOut n op t a u → TurnIsShort u
  carries n op (answer.Folder ran) u out = carried n op ran u out
  carries n op (answer.Accepted rev) u is = absurd is
  carries n op (answer.Refused why) u is = absurd is
  carries n op answer.NoSuchOp u is = absurd is

  -- AT THE SERVER the journal alone changes
  outdated : (n : ℕ) (a : TakeReply) (u : Turn) → IsOutdated n t a u → TurnIsShort u
  outdated n a u (is, now) = same_turn u _ now refl refl refl

judged : (c n : ℕ) (op : Op) (t : Turn) → TurnIsShort t → (a : TakeReply) (u : Turn) → IsJudged c n (commit_of op) t a u → TurnIsShort u
judged c n op t was (answer.Accepted rev) u (judges, now) =
    beside t was u (unrecorded t was u (ap (λ (v : Turn). v.shared.blocks) now) (ap (λ (v : Turn). v.shared.edits.edits) now))
    (ap (λ (v : Turn). v.member.folder) now) (ap (λ (v : Turn). v.member.listing) now)
judged c n op t was (answer.Refused why) u (judges, now) = same_turn t was u _ now refl refl refl
judged c n op t was (answer.Folder ran) u is = absurd is
judged c n op t was answer.NoSuchOp u is = absurd is

module _ (c n : ℕ) (op : Op) (t : Turn) (was : TurnIsShort t) where
  -- the blocks of the file come to the store
  with_bytes : (bytes : List ℕ) → TurnIsShort (stored bytes t)
  with_bytes bytes = record {
    shared = record { edits = was.shared.edits; blocks = bytes_stored bytes t.shared.blocks was.shared.blocks };
    member = was.member;
  }

  by_bytes : (bytes : List ℕ) (same : Bool) (a : TakeReply) (u : Turn) → CommitsBytes c n (commit_of op) bytes same t a u → TurnIsShort u
  by_bytes bytes true a u is = judged c n op (stored bytes t) (with_bytes bytes) a u is
  by_bytes bytes false a u is = outdated t was n a u is

  by_read : (read : Option (List ℕ)) (a : TakeReply) (u : Turn) → CommitsRead c n (commit_of op) read t a u → TurnIsShort u
  by_read None a u is = outdated t was n a u is
  by_read (Some bytes) a u is = by_bytes bytes (is_recorded t.shared.edits.edits (content_of bytes).hash (committed op.remote)) a u is

  by_upload : (log : List LogEntry) (upload : Bool) (a : TakeReply) (u : Turn) → Commits log c n (commit_of op) upload t a u → TurnIsShort u
  by_upload log true a u is = by_read (read_in c n log) a u is
  by_upload log false a u is = judged c n op t was a u is

  by_effect : (log : List LogEntry) (commit : Bool) (a : TakeReply) (u : Turn) → TakesBy log c n op commit t a u → TurnIsShort u
  by_effect log true a u is = by_upload log (is_upload op) a u is
  by_effect log false a u is = carries t was n op a u is

module _ (log : List LogEntry) (t : Turn) (was : TurnIsShort t) where
  by_flight : (c n : ℕ) (o : Option Op) (a : TakeReply) (u : Turn) → TakesOf log c n o t a u → TurnIsShort u
  by_flight c n None a u is = same_turn t was u t is.1 refl refl refl
  by_flight c n (Some op) a u is = by_effect c n op t was log (is_commit op.effect) a u is

  -- BY THE EVENT
  pub does_short : (u : Turn) (e : Event) (r : Reply) → FitsEvent e → Does log e r t u → TurnIsShort u
  does_short u (event.User c edit) (reply.User a) fits does = record {
    shared = subst SharesShort (sym (ap (λ (v : Turn). v.shared) does.2)) was.shared;
    member = record {
      folder = user_short edit fits t.member.folder a u.member.folder was.member.folder does.0;
      listed = subst IsFewListing (sym (ap (λ (v : Turn). v.member.listing) does.2)) was.member.listed;
    };
  }
  does_short u (event.User c edit) _ fits does = absurd does
  does_short u (event.List c) (reply.Listed changes items) fits does = subst TurnIsShort (sym does.now) (record {
    shared = was.shared;
    member = record {
      folder = record { held = was.member.folder.held; pending = All-nil IsFewNotice };
      listed = listing_few t.member.folder.held was.member.folder.held items does.items_are;
    };
  })
  does_short u (event.List c) _ fits does = absurd does
  does_short u (event.Scan c) (reply.Scan a) fits does = scans t was a u does
  does_short u (event.Scan c) _ fits does = absurd does
  does_short u (event.Watch c) r fits does = watches t was t.member.folder.pending r u refl does
  does_short u (event.Pull c) (reply.Pulled entries cursor) fits does = same_turn t was u _ does.now refl refl refl
  does_short u (event.Pull c) _ fits does = absurd does
  does_short u (event.Plan c) (reply.Plan a) fits does =
      beside t was u (unrecorded t was u (ap (λ (v : Turn). v.shared.blocks) does.1) (plan_edits a _ _ does.0))
      (ap (λ (v : Turn). v.member.folder) does.1) (ap (λ (v : Turn). v.member.listing) does.1)
  does_short u (event.Plan c) _ fits does = absurd does
  does_short u (event.Start c n) (reply.Started a) fits does =
      let kept = starts_keep n (planned_of (flight_of n t.member.client.flights)) t.member a u.member does.0 in
      beside t was u (subst SharesShort (sym does.1) was.shared) kept.0 kept.1
  does_short u (event.Start c n) _ fits does = absurd does
  does_short u (event.Take c n) (reply.Took a) fits does = by_flight c n (started_of (flight_of n t.member.client.flights)) a u does
  does_short u (event.Take c n) _ fits does = absurd does
  does_short u (event.Done c n) (reply.Done a) fits does =
      beside t was u (unrecorded t was u (ap (λ (v : Turn). v.shared.blocks) does.1) (done_edits n t.member.client u.member.client t.shared.edits u.shared.edits a does.0))
      (ap (λ (v : Turn). v.member.folder) does.1) (ap (λ (v : Turn). v.member.listing) does.1)
  does_short u (event.Done c n) _ fits does = absurd does
  does_short u (event.Restart c) reply.Restarted fits does = subst TurnIsShort (sym does) (record {
    shared = was.shared;
    member = record { folder = was.member.folder; listed = tt };
  })
  does_short u (event.Restart c) _ fits does = absurd does
  does_short u (event.Mark c) (reply.Marked a) fits does = same_turn t was u t does.1 refl refl refl
  does_short u (event.Mark c) _ fits does = absurd does
  does_short u (event.Web edit) r fits does = absurd does
