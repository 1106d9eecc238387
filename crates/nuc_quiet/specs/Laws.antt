-- A sync of a client whose folder doesn't fail ends quiet.
use Rattle.std.specs.Prelude.{◌≡◌, ℕ, Bool, List, [], ◌∷◌, ◌++◌, Some}
use Rattle.nuc_follow.specs.Matches.{Matches}
use Rattle.nuc_log.specs.declared.event.Event.TheVariants as event
use Rattle.nuc_log.specs.declared.log.LogEntry.{LogEntry}
use Rattle.nuc_log.specs.declared.log.LogEntry.TheVariants as entry
use Rattle.nuc_log.specs.declared.reply.MarkReply.TheVariants as mark
use Rattle.nuc_log.specs.declared.reply.Reply.TheVariants as reply
use Rattle.nuc_server.specs.WebEdits.{WebState}
use Rattle.nuc_sync.specs.Runs.{Runs}
use Rattle.nuc_sync.specs.Tasks.{sync_tasks}
use Rattle.nuc_transfer.specs.Transfer.{Collision}
use Rattle.nuc_world.specs.Marks.{IsQuiet}
use Rattle.nuc_world.specs.Runs.{Reaches}
use Rattle.nuc_world.specs.State.{MemberState, member_of}
use Rattle.nuc_world.specs.World.{WorldData}
use Rattle.nuc_quiet.specs.Fit.{FolderIsFit}

-- a client's folder holds just what its Local says
abbrev pub FolderMatches : WebState → MemberState → Type 0
FolderMatches s m = Matches s.edits.edits m.client.local m.folder.held

-- no call of its folder is to fail
abbrev pub NothingFails : MemberState → Type 0
NothingFails m = m.due.failing ≡ []

-- the client is quiet, its last mark says so, and its folder matches its Local
pub record EndsQuiet (c : ℕ) (v : WorldData) : Type 0 where
  pub member : MemberState
  pub was : member_of c v.now.members ≡ Some member
  pub quiet : IsQuiet member.client
  pub matches : FolderMatches v.now.shared member
  pub before : List LogEntry
  pub marked : v.log ≡ before ++ entry.Stepped (event.Mark c) (reply.Marked mark.Quiet) ∷ []

-- so ends each sync that comes to its end, unless two lists of bytes have one SHA-256
abbrev pub SyncsEndQuiet : Type 0
SyncsEndQuiet = (c : ℕ) (backwards : Bool) (w v : WorldData) (m : MemberState) → Reaches w.log w.now → member_of c w.now.members ≡ Some m → NothingFails m
    → FolderIsFit m → Runs w (sync_tasks c backwards) v [] → ¬ Collision → EndsQuiet c v
