-- How the outside change of an operation is made: a commit at the server, all else in the folder.
use Rattle.std.specs.Prelude.{◌≡◌, ◌≢◌, ◌==◌, ◌&&◌, ℕ, Bool, true, false, not, is_some, cond, drop, List, [], ◌∷◌, Option, None, Some}
use Rattle.std.specs.Option.{unwrap_or}
use Rattle.std.specs.Str.{bytes_eq}
use Rattle.nuc_base.specs.declared.change.Change.{Change}
use Rattle.nuc_base.specs.declared.change.Change.TheVariants.{Keep, Put, Cut}
use Rattle.nuc_base.specs.declared.node.Node.{Node}
use Rattle.nuc_blocks.specs.Blocks.{Blocks, assembled, first_missing}
use Rattle.nuc_class.specs.declared.op.Effect.{Effect}
use Rattle.nuc_class.specs.declared.op.Effect.TheVariants as effect
use Rattle.nuc_class.specs.declared.op.Op.{Op}
use Rattle.nuc_class.specs.declared.op.Verb.{Verb}
use Rattle.nuc_class.specs.declared.op.Verb.TheVariants as verb
use Rattle.nuc_edits.specs.Edits.{content_at}
use Rattle.nuc_edits.specs.declared.edit.Edit.{Edit}
use Rattle.nuc_filework.specs.Calls.{calls_of}
use Rattle.nuc_filework.specs.Runs.{FolderView, RunsOp}
use Rattle.nuc_flights.specs.Flights.{flight_of}
use Rattle.nuc_flights.specs.declared.taken.Taken.{Taken}
use Rattle.nuc_flights.specs.declared.taken.Taken.TheVariants as came
use Rattle.nuc_folder.specs.Memory.{MemState}
use Rattle.nuc_folder.specs.declared.outcome.Outcome.TheVariants as outcome
use Rattle.nuc_folder.specs.declared.ran.RanOp.{RanOp}
use Rattle.nuc_hash.specs.Content.{ContentData, blocks_of, content_of}
use Rattle.nuc_hash.specs.declared.digest.Digest.{Digest}
use Rattle.nuc_journal.specs.declared.entry.Entry.{Entry}
use Rattle.nuc_log.specs.declared.event.Event.TheVariants as event
use Rattle.nuc_log.specs.declared.log.LogEntry.{LogEntry}
use Rattle.nuc_log.specs.declared.log.LogEntry.TheVariants as entry
use Rattle.nuc_log.specs.declared.reply.Reply.TheVariants as reply
use Rattle.nuc_log.specs.declared.reply.StartReply.{StartReply}
use Rattle.nuc_log.specs.declared.reply.StartReply.TheVariants as start
use Rattle.nuc_log.specs.declared.reply.TakeReply.{TakeReply}
use Rattle.nuc_log.specs.declared.reply.TakeReply.TheVariants as answer
use Rattle.nuc_observe.specs.Versions.{is_of_hash}
use Rattle.nuc_server.specs.Judge.{Judges, blocks_with}
use Rattle.nuc_server.specs.WebEdits.{WebState, all_stored}
use Rattle.nuc_server.specs.declared.commit.Commit.{Commit}
use Rattle.nuc_server.specs.declared.commit.CommitReply.TheVariants as commit
use Rattle.nuc_step.specs.Stages.{started_of}
use Rattle.nuc_step.specs.Steps.{after_take}
use Rattle.nuc_world.specs.Starts.{is_file, is_upload, with_client}
use Rattle.nuc_world.specs.State.{MemberState, Turn, with_counts}

abbrev pub is_commit : Effect → Bool
is_commit effect.Commit = true
is_commit effect.Disk = false
is_commit effect.Nothing = false

-- WHAT A START READ, as the log has it
abbrev pub bytes_of : StartReply → Option (List ℕ)
bytes_of (start.Ok bytes) = bytes
bytes_of start.Changed = None
bytes_of start.Failed = None
bytes_of start.NoSuchOp = None

abbrev pub read_by : ℕ → ℕ → LogEntry → Option (List ℕ)
read_by c n (entry.Stepped (event.Start client number) (reply.Started answer)) = cond ((client == c) && (number == n)) (bytes_of answer) None
read_by c n _ = None

abbrev pub or_else : {A : Type 0} → Option A → Option A → Option A
or_else (Some x) other = Some x
or_else None other = other

-- by the last Start of this operation
abbrev pub read_in : ℕ → ℕ → List LogEntry → Option (List ℕ)
read_in c n [] = None
read_in c n (e ∷ es) = or_else (read_in c n es) (read_by c n e)

-- A COMMIT
abbrev pub committed : Change → Option Node
committed Keep = None
committed (Put n) = Some n
committed Cut = None

abbrev pub commit_of : Op → Commit
commit_of op = record { id = op.id; base = op.base; value = committed op.remote }

-- the content of the version of a node
abbrev pub content_in : List Edit → Option Node → Option ContentData
content_in edits None = None
content_in edits (Some n) = content_at edits n.ver.0

-- the version of a node was recorded with this hash
abbrev pub is_recorded : List Edit → Digest → Option Node → Bool
is_recorded edits hash value = is_of_hash hash (content_in edits value)

-- the client is told what came of it, with the server's news
abbrev pub told : ℕ → Taken → List Entry → MemberState → MemberState
told n t news m = with_client (after_take n t news m.client) m

-- the server judges it: where it is accepted, the client hears of all entries behind its cursor
abbrev pub IsJudged : ℕ → ℕ → Commit → Turn → TakeReply → Turn → Type 0
IsJudged c n k t (answer.Accepted rev) u =
    Judges t.shared.entries t.shared.blocks k (blocks_with (content_in t.shared.edits.edits k.value)) c (commit.Accepted rev) u.shared.entries
    × (u ≡ record { shared = record t.shared { entries = u.shared.entries }; member = told n (came.Accepted rev) (drop t.member.client.remote.cursor u.shared.entries) t.member })
IsJudged c n k t (answer.Refused why) u =
    Judges t.shared.entries t.shared.blocks k (blocks_with (content_in t.shared.edits.edits k.value)) c (commit.Refused why) t.shared.entries
    × (u ≡ record t { member = told n (came.Refused why) [] t.member })
IsJudged c n k t _ u = ⊥

-- what was read isn't what was recorded: nothing is committed
abbrev pub IsOutdated : ℕ → Turn → TakeReply → Turn → Type 0
IsOutdated n t r u = (r ≡ answer.Folder (record { outcome = outcome.Changed; made = 0 })) × (u ≡ record t { member = told n (came.Folder outcome.Changed) [] t.member })

-- the blocks of the file come to the store
abbrev pub stored : List ℕ → Turn → Turn
stored bytes t = record t { shared = record t.shared { blocks = all_stored (blocks_of bytes) t.shared.blocks } }

abbrev pub CommitsBytes : ℕ → ℕ → Commit → List ℕ → Bool → Turn → TakeReply → Turn → Type 0
CommitsBytes c n k bytes true t r u = IsJudged c n k (stored bytes t) r u
CommitsBytes c n k bytes false t r u = IsOutdated n t r u

abbrev pub CommitsRead : ℕ → ℕ → Commit → Option (List ℕ) → Turn → TakeReply → Turn → Type 0
CommitsRead c n k None t r u = IsOutdated n t r u
CommitsRead c n k (Some bytes) t r u = CommitsBytes c n k bytes (is_recorded t.shared.edits.edits (content_of bytes).hash k.value) t r u

-- an upload commits what its Start read, where that is what was recorded
abbrev pub Commits : List LogEntry → ℕ → ℕ → Commit → Bool → Turn → TakeReply → Turn → Type 0
Commits log c n k true t r u = CommitsRead c n k (read_in c n log) t r u
Commits log c n k false t r u = IsJudged c n k t r u

-- IN THE FOLDER
-- the content of what isn't a file is that of no bytes
abbrev pub or_empty : Option ContentData → ContentData
or_empty None = content_of []
or_empty (Some content) = content

abbrev pub seen_content : List Edit → Op → ContentData
seen_content edits op = or_empty (content_in edits op.old_local)

abbrev pub wanted_content : List Edit → Op → ContentData
wanted_content edits op = or_empty (content_in edits (committed op.local))

-- whether bytes are written: those of a new file, or new ones of a file that is there
abbrev pub writes : Option Node → Change → Bool → Bool
writes None (Put n) same = is_file n.kind
writes (Some old) (Put n) same = not same
writes old Keep same = false
writes old Cut same = false

abbrev pub writes_by : Verb → Option Node → Change → Bool → Bool
writes_by verb.Adopt old local same = false
writes_by verb.Split old local same = false
writes_by _ old local same = writes old local same

abbrev pub is_written : List Edit → Op → Bool
is_written edits op = writes_by op.verb op.old_local op.local (bytes_eq (seen_content edits op).hash.0 (wanted_content edits op).hash.0)

-- the bytes of these blocks, where the store has all of them
abbrev pub kept_bytes : Blocks → List Digest → Option Digest → Option (List ℕ)
kept_bytes blocks digests None = Some (assembled blocks digests)
kept_bytes blocks digests (Some missing) = None

abbrev pub bytes_for : WebState → Op → Option (List ℕ)
bytes_for s op = cond (is_written s.edits.edits op)
    (kept_bytes s.blocks (wanted_content s.edits.edits op).blocks (first_missing s.blocks (wanted_content s.edits.edits op).blocks)) None

-- what the calls of an operation see of a folder that has failed so often, had so many calls when it was settled, and was
-- this then
abbrev pub view_of : ℕ → ℕ → MemState → MemberState → FolderView
view_of faults made settled m = record {
  told = Some m.folder.held;
  next = m.folder.next;
  faults = faults;
  beside = Some (record { calls = with_counts made faults m.due; settled = settled; pending = m.folder.pending });
}

-- the calls of the operation are made
pub record IsCarriedOut (n : ℕ) (op : Op) (t : Turn) (ran : RanOp) (u : Turn) : Type 0 where
  pub known : ran.outcome ≢ outcome.Memory
  pub faults : ℕ
  pub faults_after : ℕ
  pub made : ℕ
  pub settled : MemState
  pub runs : RunsOp t.member.client.local.keys (unwrap_or (bytes_for t.shared op) [])
      (calls_of t.member.client.local.keys op (seen_content t.shared.edits.edits op) (wanted_content t.shared.edits.edits op) (is_some (bytes_for t.shared op)))
      (view_of faults made settled t.member) ran (view_of faults_after made settled u.member)
  pub shared : u.shared ≡ t.shared
  pub member : u.member ≡ record (told n (came.Folder ran.outcome) [] t.member) { folder = u.member.folder; due = u.member.due }

abbrev pub CarriesOut : ℕ → Op → Turn → TakeReply → Turn → Type 0
CarriesOut n op t (answer.Folder ran) u = IsCarriedOut n op t ran u
CarriesOut n op t _ u = ⊥

abbrev pub TakesBy : List LogEntry → ℕ → ℕ → Op → Bool → Turn → TakeReply → Turn → Type 0
TakesBy log c n op true t r u = Commits log c n (commit_of op) (is_upload op) t r u
TakesBy log c n op false t r u = CarriesOut n op t r u

abbrev pub TakesOf : List LogEntry → ℕ → ℕ → Option Op → Turn → TakeReply → Turn → Type 0
TakesOf log c n None t r u = (r ≡ answer.NoSuchOp) × (u ≡ t)
TakesOf log c n (Some op) t r u = TakesBy log c n op (is_commit op.effect) t r u

-- the outside change of the operation under this number is made
abbrev pub Takes : List LogEntry → ℕ → ℕ → Turn → TakeReply → Turn → Type 0
Takes log c n t r u = TakesOf log c n (started_of (flight_of n t.member.client.flights)) t r u
