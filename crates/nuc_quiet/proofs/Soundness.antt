-- In each world that a log led to, a client's folder is a shelf with keys below the next, and each block at the server stands
-- under its digest.
use Rattle.std.specs.Prelude.{All, replicate, unwrap_or}
use Rattle.std.proofs.Common.{◌≡◌, ◌≢◌, ◌≤◌, ◌++◌, ℕ, zero, suc, if◌then◌else◌, Bool, true, false, List, [], ◌∷◌, Option, Some, None, refl, sym, ap, subst, inl, inr, arith}
use Rattle.std.specs.FinMap as map
use Rattle.std.specs.FinMap.{get, get-empty}
use Rattle.std.specs.Ordering.{nat_cmp}
use Rattle.nuc_base.proofs.Maps.{not_both}
use Rattle.nuc_base.specs.declared.node.Place.{Place}
use Rattle.nuc_base.specs.declared.node.Node.{Node}
use Rattle.nuc_blocks.specs.Blocks.{Blocks, is_missing, stored as with_block}
use Rattle.nuc_blocks.specs.Pieces.{all_stored}
use Rattle.nuc_class.specs.declared.op.Op.{Op}
use Rattle.nuc_filework.specs.Runs.{FolderView, IsNotRun, Runs, RunsOp, Succeeds, over, stops, goes_on}
use Rattle.nuc_filework.specs.declared.call.Call.{Call}
use Rattle.nuc_filework.specs.declared.call.Call.TheVariants.{MakeDir, WriteNew, Replace, SetBit, MoveTo, Remove}
use Rattle.nuc_folder.specs.Answers.{Changes, Makes}
use Rattle.nuc_flights.specs.Flights.{flight_of}
use Rattle.nuc_folder.specs.Memory.{IsKeyed, MemState}
use Rattle.nuc_folder.specs.State.{IsTold, KeysBelow}
use Rattle.nuc_folder.specs.declared.noticed.Noticed.{Noticed}
use Rattle.nuc_folder.specs.declared.outcome.Outcome.{Outcome}
use Rattle.nuc_folder.specs.declared.outcome.Outcome.TheVariants as outcome
use Rattle.nuc_folder.specs.declared.ran.RanOp.{RanOp}
use Rattle.nuc_hash.specs.Content.{blocks_of, content_of, digest_of}
use Rattle.nuc_hash.specs.Filling.{filling_bytes}
use Rattle.nuc_log.specs.declared.event.Event.{Event}
use Rattle.nuc_log.specs.declared.event.Event.TheVariants as event
use Rattle.nuc_log.specs.declared.log.LogEntry.{LogEntry}
use Rattle.nuc_log.specs.declared.reply.Reply.{Reply}
use Rattle.nuc_log.specs.declared.reply.Reply.TheVariants as reply
use Rattle.nuc_log.specs.declared.reply.StartReply.{StartReply}
use Rattle.nuc_log.specs.declared.reply.StartReply.TheVariants as start
use Rattle.nuc_log.specs.declared.reply.TakeReply.{TakeReply}
use Rattle.nuc_log.specs.declared.reply.TakeReply.TheVariants as answer
use Rattle.nuc_observe.specs.Keys.{KeyMap}
use Rattle.nuc_server.specs.Web.{AnswersAt, WebAnswers}
use Rattle.nuc_server.specs.WebEdits.{WebState, WritesNew, WritesOver}
use Rattle.nuc_server.specs.declared.commit.Commit.{Commit}
use Rattle.nuc_server.specs.declared.web_edit.WebEdit.{WebEdit}
use Rattle.nuc_server.specs.declared.web_edit.WebEdit.TheVariants as edit
use Rattle.nuc_server.specs.declared.web_edit.WebReply.{WebReply}
use Rattle.nuc_server.specs.declared.web_edit.WebReply.TheVariants as web
use Rattle.nuc_shelf.specs.Shelf.{IsShelf, empty_shelf}
use Rattle.nuc_shelf.proofs.Shelves.{empty_is}
use Rattle.nuc_step.specs.Stages.{planned_of, started_of}
use Rattle.nuc_world.specs.Runs.{IsRecounted, Reaches}
use Rattle.nuc_world.specs.Runs.Reaches.{opened, stepped, told, unlisted}
use Rattle.nuc_world.specs.Starts.{Begins, Reads, StartsOf, Uploads, is_upload}
use Rattle.nuc_world.specs.State.{Due, MemberState, Turn, WorldState, after_one, fresh, fresh_member, member_of, with_failure, with_member}
use Rattle.nuc_world.specs.Step.{Does, EditsWeb, IsStep, IsTurn, Watches, client_of}
use Rattle.nuc_world.specs.Takes.{CarriesOut, Commits, CommitsBytes, CommitsRead, IsCarriedOut, IsJudged, IsOutdated, TakesBy, TakesOf, bytes_for, commit_of, is_commit, is_recorded, read_in, stored, view_of}
use Rattle.nuc_world.proofs.Items.{all_append, all_front, all_get, all_none, all_set}
use Rattle.nuc_quiet.proofs.UserShelves.{user_keyed}

-- BLOCKS
abbrev pub IsHashed : List ℕ × List ℕ → Type 0
IsHashed block = digest_of block.1 ≡ record { 0 = block.0 }

abbrev pub AreHashed : Blocks → Type 0
AreHashed blocks = All IsHashed blocks

one_stored : (blocks : Blocks) (bytes : List ℕ) → AreHashed blocks → AreHashed (with_block (digest_of bytes) bytes blocks)
one_stored blocks bytes all = by (is_missing blocks (digest_of bytes))
  where
    last : AreHashed (((digest_of bytes).0, bytes) ∷ [])
    last = all_front IsHashed ((digest_of bytes).0, bytes) [] refl (all_none IsHashed)

    by : (missing : Bool) → AreHashed (if missing then blocks ++ ((digest_of bytes).0, bytes) ∷ [] else blocks)
    by true = all_append IsHashed blocks (((digest_of bytes).0, bytes) ∷ []) all last
    by false = all

all_hashed : (pieces : List (List ℕ)) (blocks : Blocks) → AreHashed blocks → AreHashed (all_stored pieces blocks)
all_hashed [] blocks all = all
all_hashed (bytes ∷ pieces) blocks all = all_hashed pieces (with_block (digest_of bytes) bytes blocks) (one_stored blocks bytes all)

-- an edit on the web stores those of a file, or none
module _ (s t : WebState) (all : AreHashed s.blocks) where
  same : t.blocks ≡ s.blocks → AreHashed t.blocks
  same is = subst AreHashed (sym is) all

  wrote : (bytes : List ℕ) → t.blocks ≡ all_stored (blocks_of bytes) s.blocks → AreHashed t.blocks
  wrote bytes is = subst AreHashed (sym is) (all_hashed (blocks_of bytes) s.blocks all)

  wrote_new : (place : Place) (bytes : List ℕ) (a : WebReply) → a ≢ web.Memory → WritesNew s place bytes a t → AreHashed t.blocks
  wrote_new place bytes (web.Accepted rev) room is = wrote bytes is.0.blocks
  wrote_new place bytes web.Memory room is = absurd (room refl)
  wrote_new place bytes _ room is = absurd is

  wrote_over : (x : ℕ) (n : Node) (bytes : List ℕ) (a : WebReply) → a ≢ web.Memory → WritesOver s x n bytes a t → AreHashed t.blocks
  wrote_over x n bytes (web.Accepted rev) room is = wrote bytes is.2.blocks
  wrote_over x n bytes web.KindChanged room is = same is.1.blocks
  wrote_over x n bytes web.Same room is = same is.2.blocks
  wrote_over x n bytes web.Memory room is = absurd (room refl)
  wrote_over x n bytes _ room is = absurd is

  at_place : (e : WebEdit) (place : Place) (a : WebReply) → a ≢ web.Memory → AnswersAt s e place a t → AreHashed t.blocks
  at_place (edit.Mkdir path) place a room is = same is.1
  at_place (edit.Write path filling) place a room (inl (vacant, so)) = wrote_new place (filling_bytes filling) a room so
  at_place (edit.Write path filling) place a room (inr (x, n, here, at, so)) = wrote_over x n (filling_bytes filling) a room so
  at_place (edit.Move from to) place a room is = same is.1
  at_place (edit.Remove path) place a room is = same is.1
  at_place (edit.Bit path on) place a room is = same is.1

  web_hashed : (e : WebEdit) (a : WebReply) → a ≢ web.Memory → WebAnswers s e a t → AreHashed t.blocks
  web_hashed e a room (inl (nowhere, none)) = same none.1.blocks
  web_hashed e a room (inr (place, leads, so)) = at_place e place a room so

-- THE CALLS of an operation leave a shelf
runs_told : (bytes : List ℕ) (last : Outcome) (calls : List Call) (v : FolderView) (final : Outcome) (made : ℕ) (w : FolderView)
    → Runs bytes last calls v final made w
    → IsTold v.next v.told → IsTold w.next w.told
runs_told bytes last calls v final made w (over a b) was = was
runs_told bytes last calls v final made w (stops a call rest x reply d is failed) was = is.form
runs_told bytes last calls v final made w (goes_on a call rest x reply u d count f is success more) was = runs_told bytes reply rest u final count w more is.form

same_told : (v : FolderView) (o : Outcome) (ran : RanOp) (w : FolderView) → IsNotRun v o ran w → IsTold v.next v.told → IsTold w.next w.told
same_told v o ran w (is, now) was = subst (λ (x : FolderView). IsTold x.next x.told) (sym now) was

op_told : (m : KeyMap) (bytes : List ℕ) (calls : Option (List Call)) (v : FolderView) (ran : RanOp) (w : FolderView) → RunsOp m bytes calls v ran w
    → IsTold v.next v.told → IsTold w.next w.told
op_told m bytes None v ran w (inl none) was = same_told v outcome.Changed ran w none was
op_told m bytes None v ran w (inr none) was = same_told v outcome.Memory ran w none was
op_told m bytes (Some []) v ran w none was = same_told v outcome.Ok ran w none was
op_told m bytes (Some (call ∷ calls)) v ran w (inl run) was = runs_told bytes outcome.Ok (call ∷ calls) v run.last ran.made w run.runs was
op_told m bytes (Some (call ∷ calls)) v ran w (inr none) was = same_told v outcome.Memory ran w none was

-- and the next key doesn't fall
makes_later : (reply : Outcome) (before after : ℕ) → Makes reply before after → before ≤ after
makes_later (outcome.Made key) before after (some, above, below) = omega (arith, above, below)
makes_later outcome.Ok before after is = absurd is
makes_later outcome.NotEmpty before after is = absurd is
makes_later outcome.Changed before after is = is
makes_later outcome.Taken before after is = is
makes_later outcome.Failed before after is = is
makes_later outcome.Memory before after is = is

changes_later : (reply : Outcome) (before after : ℕ) → Changes reply before after → before ≤ after
changes_later (outcome.Made key) before after is = absurd is
changes_later outcome.Ok before after is = is
changes_later outcome.NotEmpty before after is = is
changes_later outcome.Changed before after is = is
changes_later outcome.Taken before after is = is
changes_later outcome.Failed before after is = is
changes_later outcome.Memory before after is = is

call_later : (call : Call) (reply : Outcome) (before after : ℕ) → Succeeds call reply before after → before ≤ after
call_later (MakeDir place) reply before after is = makes_later reply before after is
call_later (WriteNew place bit) reply before after is = makes_later reply before after is
call_later (Replace key expected) reply before after is = changes_later reply before after is
call_later (SetBit key expected bit) reply before after is = changes_later reply before after is
call_later (MoveTo key expected place) reply before after is = changes_later reply before after is
call_later (Remove key expected) reply before after is = changes_later reply before after is

runs_later : (bytes : List ℕ) (last : Outcome) (calls : List Call) (v : FolderView) (final : Outcome) (made : ℕ) (w : FolderView)
    → Runs bytes last calls v final made w
    → v.next ≤ w.next
runs_later bytes last calls v final made w (over a b) = omega arith
runs_later bytes last calls v final made w (stops a call rest x reply d is failed) = call_later call reply v.next w.next is.keys
runs_later bytes last calls v final made w (goes_on a call rest x reply u d count f is success more) =
    let first = call_later call reply v.next u.next is.keys in
    let others = runs_later bytes reply rest u final count w more in
    omega (arith, first, others)

not_later : (v : FolderView) (o : Outcome) (ran : RanOp) (w : FolderView) → IsNotRun v o ran w → v.next ≤ w.next
not_later v o ran w (is, now) = let same : w.next ≡ v.next = ap (λ (x : FolderView). x.next) now in omega (arith, same)

op_later : (m : KeyMap) (bytes : List ℕ) (calls : Option (List Call)) (v : FolderView) (ran : RanOp) (w : FolderView) → RunsOp m bytes calls v ran w
    → v.next ≤ w.next
op_later m bytes None v ran w (inl none) = not_later v outcome.Changed ran w none
op_later m bytes None v ran w (inr none) = not_later v outcome.Memory ran w none
op_later m bytes (Some []) v ran w none = not_later v outcome.Ok ran w none
op_later m bytes (Some (call ∷ calls)) v ran w (inl run) = runs_later bytes outcome.Ok (call ∷ calls) v run.last ran.made w run.runs
op_later m bytes (Some (call ∷ calls)) v ran w (inr none) = not_later v outcome.Memory ran w none

-- A START leaves the folder
reads_keep : (n key : ℕ) (m : MemberState) (r : StartReply) (u : MemberState) → Reads n key m r u → u.folder ≡ m.folder
reads_keep n key m (start.Ok (Some bytes)) u is = ap (λ (x : MemberState). x.folder) is.2
reads_keep n key m (start.Ok None) u is = absurd is
reads_keep n key m start.Changed u is = ap (λ (x : MemberState). x.folder) is.2
reads_keep n key m start.Failed u is = ap (λ (x : MemberState). x.folder) is.1
reads_keep n key m start.NoSuchOp u is = absurd is

uploads_keep : (n : ℕ) (key : Option ℕ) (m : MemberState) (r : StartReply) (u : MemberState) → Uploads n key m r u → u.folder ≡ m.folder
uploads_keep n (Some key) m r u is = reads_keep n key m r u is
uploads_keep n None m r u is = ap (λ (x : MemberState). x.folder) is.1

begins_keep : (n : ℕ) (op : Op) (upload : Bool) (m : MemberState) (r : StartReply) (u : MemberState) → Begins n op upload m r u → u.folder ≡ m.folder
begins_keep n op true m r u is = uploads_keep n (get m.client.local.keys op.id.0) m r u is
begins_keep n op false m r u is = ap (λ (x : MemberState). x.folder) is.1

starts_keep : (n : ℕ) (o : Option Op) (m : MemberState) (r : StartReply) (u : MemberState) → StartsOf n o m r u → u.folder ≡ m.folder
starts_keep n None m r u is = ap (λ (x : MemberState). x.folder) is.1
starts_keep n (Some op) m r u is = begins_keep n op (is_upload op) m r u is

-- A TURN
pub record IsSoundTurn (t : Turn) : Type 0 where
  pub blocks : AreHashed t.shared.blocks
  pub folder : IsKeyed t.member.folder

-- what is pending says nothing of it
keyed_so : (s t : MemState) → t.held ≡ s.held → t.next ≡ s.next → IsKeyed s → IsKeyed t
keyed_so s t held next is = record {
  shelf = subst IsShelf (sym held) is.shelf;
  below = subst (λ k. KeysBelow k t.held) (sym next) (subst (KeysBelow s.next) (sym held) is.below);
  some = let some = is.some in omega (arith, next, some);
}

module _ (t : Turn) (was : IsSoundTurn t) where
  beside : (u : Turn) → u.shared.blocks ≡ t.shared.blocks → u.member.folder.held ≡ t.member.folder.held → u.member.folder.next ≡ t.member.folder.next
      → IsSoundTurn u
  beside u blocks held next = record { blocks = subst AreHashed (sym blocks) was.blocks; folder = keyed_so t.member.folder u.member.folder held next was.folder }

  so : (u v : Turn) → u ≡ v → v.shared.blocks ≡ t.shared.blocks → v.member.folder.held ≡ t.member.folder.held → v.member.folder.next ≡ t.member.folder.next
      → IsSoundTurn u
  so u v is blocks held next = subst IsSoundTurn (sym is) (beside v blocks held next)

  watches : (pending : List Noticed) (r : Reply) (u : Turn) → Watches pending r t u → IsSoundTurn u
  watches [] reply.Nothing u is = so u t is refl refl refl
  watches [] _ u is = absurd is
  watches (notice ∷ notices) (reply.Watch a) u (answers, now) = so u _ now refl refl refl
  watches (notice ∷ notices) _ u is = absurd is

  -- in the folder
  carried : (n : ℕ) (op : Op) (ran : RanOp) (u : Turn) → IsCarriedOut n op t ran u → IsSoundTurn u
  carried n op ran u out =
      let v = view_of out.faults out.made out.settled t.member in
      let w = view_of out.faults_after out.made out.settled u.member in
      let form = op_told t.member.client.local.keys (unwrap_or (bytes_for t.shared op) []) _ v ran w out.runs (was.folder.shelf, was.folder.below) in
      let later = op_later t.member.client.local.keys (unwrap_or (bytes_for t.shared op) []) _ v ran w out.runs in
      record {
        blocks = subst (λ (s : WebState). AreHashed s.blocks) (sym out.shared) was.blocks;
        folder = record { shelf = form.0; below = form.1; some = let some = was.folder.some in omega (arith, some, later) };
      }

  carries : (n : ℕ) (op : Op) (a : TakeReply) (u : Turn) → CarriesOut n op t a u → IsSoundTurn u
  carries n op (answer.Folder ran) u out = carried n op ran u out
  carries n op (answer.Accepted rev) u is = absurd is
  carries n op (answer.Refused why) u is = absurd is
  carries n op answer.NoSuchOp u is = absurd is

  -- at the server
  outdated : (n : ℕ) (a : TakeReply) (u : Turn) → IsOutdated n t a u → IsSoundTurn u
  outdated n a u (is, now) = so u _ now refl refl refl

  judged : (c n : ℕ) (k : Commit) (a : TakeReply) (u : Turn) → IsJudged c n k t a u → IsSoundTurn u
  judged c n k (answer.Accepted rev) u (accepted, now) = so u _ now refl refl refl
  judged c n k (answer.Refused why) u (refused, now) = so u _ now refl refl refl
  judged c n k (answer.Folder ran) u is = absurd is
  judged c n k answer.NoSuchOp u is = absurd is

with_bytes : (bytes : List ℕ) (t : Turn) → IsSoundTurn t → IsSoundTurn (stored bytes t)
with_bytes bytes t was = record { blocks = all_hashed (blocks_of bytes) t.shared.blocks was.blocks; folder = was.folder }

module _ (t : Turn) (was : IsSoundTurn t) (c n : ℕ) (op : Op) where
  by_bytes : (bytes : List ℕ) (same : Bool) (a : TakeReply) (u : Turn) → CommitsBytes c n (commit_of op) bytes same t a u → IsSoundTurn u
  by_bytes bytes true a u is = judged (stored bytes t) (with_bytes bytes t was) c n (commit_of op) a u is
  by_bytes bytes false a u is = outdated t was n a u is

  by_read : (read : Option (List ℕ)) (a : TakeReply) (u : Turn) → CommitsRead c n (commit_of op) read t a u → IsSoundTurn u
  by_read None a u is = outdated t was n a u is
  by_read (Some bytes) a u is = by_bytes bytes (is_recorded t.shared.edits.edits (content_of bytes).hash (commit_of op).value) a u is

  by_upload : (log : List LogEntry) (upload : Bool) (a : TakeReply) (u : Turn) → Commits log c n (commit_of op) upload t a u → IsSoundTurn u
  by_upload log true a u is = by_read (read_in c n log) a u is
  by_upload log false a u is = judged t was c n (commit_of op) a u is

  by_effect : (log : List LogEntry) (commit : Bool) (a : TakeReply) (u : Turn) → TakesBy log c n op commit t a u → IsSoundTurn u
  by_effect log true a u is = by_upload log (is_upload op) a u is
  by_effect log false a u is = carries t was n op a u is

module _ (t : Turn) (was : IsSoundTurn t) where
  by_flight : (log : List LogEntry) (c n : ℕ) (o : Option Op) (a : TakeReply) (u : Turn) → TakesOf log c n o t a u → IsSoundTurn u
  by_flight log c n None a u (is, now) = so t was u t now refl refl refl
  by_flight log c n (Some op) a u is = by_effect t was c n op log (is_commit op.effect) a u is

  -- by the event
  turn_sound : (log : List LogEntry) (u : Turn) (e : Event) (r : Reply) → Does log e r t u → IsSoundTurn u
  turn_sound log u (event.User c edit) (reply.User a) (does, room, now) = record {
    blocks = subst AreHashed (sym (ap (λ (v : Turn). v.shared.blocks) now)) was.blocks;
    folder = user_keyed edit t.member.folder a u.member.folder was.folder does;
  }
  turn_sound log u (event.User c edit) _ does = absurd does
  turn_sound log u (event.List c) (reply.Listed changes items) does = so t was u _ does.now refl refl refl
  turn_sound log u (event.List c) _ does = absurd does
  turn_sound log u (event.Scan c) (reply.Scan a) (does, now) = so t was u _ now refl refl refl
  turn_sound log u (event.Scan c) _ does = absurd does
  turn_sound log u (event.Watch c) r does = watches t was t.member.folder.pending r u does
  turn_sound log u (event.Pull c) (reply.Pulled entries cursor) does = so t was u _ does.now refl refl refl
  turn_sound log u (event.Pull c) _ does = absurd does
  turn_sound log u (event.Plan c) (reply.Plan a) (does, now) = so t was u _ now refl refl refl
  turn_sound log u (event.Plan c) _ does = absurd does
  turn_sound log u (event.Start c n) (reply.Started a) (does, same) =
      let kept = starts_keep n (planned_of (flight_of n t.member.client.flights)) t.member a u.member does in
      beside t was u (ap (λ (s : WebState). s.blocks) same) (ap (λ (f : MemState). f.held) kept) (ap (λ (f : MemState). f.next) kept)
  turn_sound log u (event.Start c n) _ does = absurd does
  turn_sound log u (event.Take c n) (reply.Took a) does = by_flight log c n (started_of (flight_of n t.member.client.flights)) a u does
  turn_sound log u (event.Take c n) _ does = absurd does
  turn_sound log u (event.Done c n) (reply.Done a) (does, now) = so t was u _ now refl refl refl
  turn_sound log u (event.Done c n) _ does = absurd does
  turn_sound log u (event.Restart c) reply.Restarted does = so t was u _ does refl refl refl
  turn_sound log u (event.Restart c) _ does = absurd does
  turn_sound log u (event.Mark c) (reply.Marked a) (does, now) = so t was u t now refl refl refl
  turn_sound log u (event.Mark c) _ does = absurd does
  turn_sound log u (event.Web edit) r does = absurd does

-- A WORLD
abbrev IsKeyedMember : MemberState → Type 0
IsKeyedMember m = IsKeyed m.folder

pub record IsSoundWorld (w : WorldState) : Type 0 where
  pub blocks : AreHashed w.shared.blocks
  pub folders : All (λ (m : MemberState). IsKeyed m.folder) w.members

member_has : (c : ℕ) (ms : List MemberState) (m : MemberState) → All IsKeyedMember ms → member_of c ms ≡ Some m → IsKeyed m.folder
member_has zero ms m all at = cc
member_has (suc i) ms m all at = all_get IsKeyedMember ms i m all at

members_with : (c : ℕ) (ms : List MemberState) (m : MemberState) → All IsKeyedMember ms → IsKeyed m.folder → All IsKeyedMember (with_member c m ms)
members_with zero ms m all its = all
members_with (suc i) ms m all its = all_set IsKeyedMember ms i m all its

turns : (log : List LogEntry) (w v : WorldState) (e : Event) (r : Reply) → IsSoundWorld w → IsTurn log e r w v → IsSoundWorld v
turns log w v e r was turn =
    let t : Turn = record { shared = w.shared; member = turn.member } in
    let its : IsSoundTurn t = record { blocks = was.blocks; folder = member_has (client_of e) w.members turn.member was.folders turn.was } in
    let after = turn_sound t its log (record { shared = v.shared; member = turn.after }) e r turn.does in
    record {
      blocks = after.blocks;
      folders = subst (All IsKeyedMember) (sym turn.now) (members_with (client_of e) w.members turn.after was.folders after.folder);
    }

web_turns : (edit : WebEdit) (r : Reply) (w v : WorldState) → IsSoundWorld w → EditsWeb edit r w v → IsSoundWorld v
web_turns edit (reply.Web a) w v was (answers, room, members, journal) = record {
  blocks = web_hashed w.shared v.shared was.blocks edit a room answers;
  folders = subst (All IsKeyedMember) (sym members) was.folders;
}
web_turns edit _ w v was is = absurd is

steps_sound : (log : List LogEntry) (w v : WorldState) (e : Event) (r : Reply) → IsSoundWorld w → IsStep log w e r v → IsSoundWorld v
steps_sound log w v (event.Web edit) r was step = web_turns edit r w v was step
steps_sound log w v (event.User c edit) r was step = turns log w v (event.User c edit) r was step
steps_sound log w v (event.List c) r was step = turns log w v (event.List c) r was step
steps_sound log w v (event.Scan c) r was step = turns log w v (event.Scan c) r was step
steps_sound log w v (event.Watch c) r was step = turns log w v (event.Watch c) r was step
steps_sound log w v (event.Pull c) r was step = turns log w v (event.Pull c) r was step
steps_sound log w v (event.Plan c) r was step = turns log w v (event.Plan c) r was step
steps_sound log w v (event.Start c n) r was step = turns log w v (event.Start c n) r was step
steps_sound log w v (event.Take c n) r was step = turns log w v (event.Take c n) r was step
steps_sound log w v (event.Done c n) r was step = turns log w v (event.Done c n) r was step
steps_sound log w v (event.Restart c) r was step = turns log w v (event.Restart c) r was step
steps_sound log w v (event.Mark c) r was step = turns log w v (event.Mark c) r was step

recounted : (c : ℕ) (count : Due → Due) (w v : WorldState) → IsSoundWorld w → IsRecounted c count w v → IsSoundWorld v
recounted c count w v was is = subst IsSoundWorld (sym is.now) (record {
  blocks = was.blocks;
  folders = members_with c w.members (record is.member { due = count is.member.due }) was.folders (member_has c w.members is.member was.folders is.was);
})

all_alike : (n : ℕ) (m : MemberState) → IsKeyed m.folder → All IsKeyedMember (replicate n m)
all_alike zero m its = all_none IsKeyedMember
all_alike (suc n) m its = all_front IsKeyedMember m (replicate n m) its (all_alike n m its)

nothing_below : (n : ℕ) → KeysBelow n empty_shelf
nothing_below n x k at = absurd (not_both map.empty x k (get-empty nat_cmp x) at)

pub reached_sound : (log : List LogEntry) (w : WorldState) → Reaches log w → IsSoundWorld w
reached_sound _ _ (opened clients some few) = record {
  blocks = all_none IsHashed;
  folders = all_alike clients fresh_member (record { shelf = empty_is; below = nothing_below 1; some = omega arith });
}
reached_sound _ v (stepped log w e r _ before step) = steps_sound log w v e r (reached_sound log w before) step
reached_sound log v (told _ w c k _ before some is) = recounted c (with_failure k) w v (reached_sound log w before) is
reached_sound log v (unlisted _ w c _ before is) = recounted c after_one w v (reached_sound log w before) is.counted

-- a client's folder
pub its_folder : (log : List LogEntry) (w : WorldState) (c : ℕ) (m : MemberState) → Reaches log w → member_of c w.members ≡ Some m → IsKeyed m.folder
its_folder log w c m reaches at = member_has c w.members m (reached_sound log w reaches).folders at
