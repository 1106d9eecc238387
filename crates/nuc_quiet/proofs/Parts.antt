-- The parts of the proof: what a scan, and each step of an operation, make of a client and its folder.
use Rattle.std.proofs.Common.{◌≡◌, ◌≢◌, ℕ, Bool, true, false, cond, List, [], ◌∷◌, ◌++◌, Option, None, Some}
use Rattle.nuc_class.specs.declared.op.Effect.TheVariants as effect
use Rattle.nuc_class.specs.declared.op.Op.{Op}
use Rattle.nuc_converge.specs.Alone.{HasBegun, HasGoneWell}
use Rattle.nuc_converge.proofs.InFlight.{IsAlone}
use Rattle.nuc_edits.specs.Edits.{same_hash}
use Rattle.nuc_flights.specs.Flights.{Flight, flight_of, planned, started, taken}
use Rattle.nuc_flights.specs.declared.taken.Taken.{Taken}
use Rattle.nuc_flights.specs.declared.taken.Taken.TheVariants as came
use Rattle.nuc_follow.specs.Matches.{Matches}
use Rattle.nuc_hash.specs.Content.{content_of}
use Rattle.nuc_log.specs.declared.event.Event.TheVariants as event
use Rattle.nuc_log.specs.declared.log.LogEntry.{LogEntry}
use Rattle.nuc_log.specs.declared.log.LogEntry.TheVariants as entry
use Rattle.nuc_log.specs.declared.reply.Reply.{Reply}
use Rattle.nuc_log.specs.declared.reply.Reply.TheVariants as reply
use Rattle.nuc_log.specs.declared.reply.StartReply.{StartReply}
use Rattle.nuc_log.specs.declared.reply.StartReply.TheVariants as start
use Rattle.nuc_log.specs.declared.reply.TakeReply.{TakeReply}
use Rattle.nuc_log.specs.declared.reply.TakeReply.TheVariants as took
use Rattle.nuc_replica.specs.Local.{LocalState}
use Rattle.nuc_server.specs.WebEdits.{WebState}
use Rattle.nuc_server.specs.declared.commit.Refusal.{Refusal}
use Rattle.nuc_step.specs.Order.{IsReady}
use Rattle.nuc_step.specs.Steps.{local_after}
use Rattle.nuc_step.specs.declared.reply.DoneReply.{DoneReply}
use Rattle.nuc_step.specs.declared.reply.DoneReply.TheVariants as done
use Rattle.nuc_transfer.specs.Transfer.{Collision}
use Rattle.nuc_world.specs.Runs.{Reaches}
use Rattle.nuc_world.specs.Starts.{is_upload}
use Rattle.nuc_world.specs.State.{MemberState, WorldState, member_of}
use Rattle.nuc_world.specs.Step.{IsStep}
use Rattle.nuc_world.specs.Takes.{committed, is_recorded, read_in}
use Rattle.nuc_quiet.specs.Fit.{FolderIsFit}
use Rattle.nuc_quiet.specs.Laws.{FolderMatches, NothingFails}

-- A LISTING that is taken over at once: the folder matches the Local that comes of it
pub record HasScanned (c : ℕ) (m : MemberState) (v : WorldState) : Type 0 where
  pub member : MemberState
  pub was : member_of c v.members ≡ Some member
  pub matches : FolderMatches v.shared member
  pub nothing_fails : NothingFails member
  pub flights : member.client.flights ≡ m.client.flights

abbrev pub ScansMatch : Type 0
ScansMatch = (log : List LogEntry) (w u v : WorldState) (c : ℕ) (m : MemberState) (r q : Reply) → Reaches log w → member_of c w.members ≡ Some m → NothingFails m
    → FolderIsFit m → IsStep log w (event.List c) r u → IsStep (log ++ entry.Stepped (event.List c) r ∷ []) u (event.Scan c) q v → HasScanned c m v

-- A CLIENT IN ITS SYNC, between two operations: what flies of it is ready and nobody else has come in between, and its folder
-- matches its Local
pub record InSync (c : ℕ) (log : List LogEntry) (w : WorldState) (m : MemberState) : Type 0 where
  pub reached : Reaches log w
  pub was : member_of c w.members ≡ Some m
  pub nothing_fails : NothingFails m
  pub alone : IsAlone (same_hash w.shared.edits.edits) w.shared.entries m.client
  pub ready : IsReady m.client

-- its operation has begun; an upload has read the bytes of its version
abbrev pub HasRead : Bool → ℕ → ℕ → List LogEntry → WebState → Op → Type 0
HasRead false c n log s op = Unit {0}
HasRead true c n log s op = (bytes : List ℕ) × (read_in c n log ≡ Some bytes) × (is_recorded s.edits.edits (content_of bytes).hash (committed op.remote) ≡ true)

pub record HasStarted (c n : ℕ) (log : List LogEntry) (w : WorldState) (m : MemberState) : Type 0 where
  pub op : Op
  pub flies : flight_of n m.client.flights ≡ Some (record { op = op; stage = started })
  pub read : HasRead (is_upload op) c n log w.shared op
  pub matches : FolderMatches w.shared m

-- it was taken, and its folder matches what Local will be
abbrev pub local_then : Op → Taken → LocalState → LocalState
local_then op (came.Folder o) l = local_after op o l
local_then op (came.Accepted rev) l = l
local_then op (came.Refused why) l = l

pub record HasTaken (n : ℕ) (w : WorldState) (m : MemberState) : Type 0 where
  pub op : Op
  pub came_so : Taken
  pub flies : flight_of n m.client.flights ≡ Some (record { op = op; stage = taken came_so })
  pub matches : Matches w.shared.edits.edits (local_then op came_so m.client.local) m.folder.held

-- THE THREE STEPS of an operation
abbrev pub StartsGoWell : Type 0
StartsGoWell = (log : List LogEntry) (w v : WorldState) (c n : ℕ) (m k : MemberState) (f : Flight) (answer : StartReply) → InSync c log w m → FolderMatches w.shared m
    → flight_of n m.client.flights ≡ Some f → f.stage ≡ planned → IsStep log w (event.Start c n) (reply.Started answer) v → member_of c v.members ≡ Some k
    → ((bytes : Option (List ℕ)) × (answer ≡ start.Ok bytes))
    × NothingFails k × HasStarted c n (log ++ entry.Stepped (event.Start c n) (reply.Started answer) ∷ []) v k

abbrev pub TakesGoWell : Type 0
TakesGoWell = (log : List LogEntry) (w v : WorldState) (c n : ℕ) (m k : MemberState) (answer : TakeReply) → InSync c log w m → HasStarted c n log w m → ¬ Collision
    → IsStep log w (event.Take c n) (reply.Took answer) v → member_of c v.members ≡ Some k
    → HasGoneWell answer × NothingFails k × ((t : HasTaken n v k) × ((why : Refusal) → t.came_so ≡ came.Refused why → answer ≡ took.Refused why))

abbrev pub DonesGoWell : Type 0
DonesGoWell = (log : List LogEntry) (w v : WorldState) (c n : ℕ) (m k : MemberState) (answer : DoneReply) → InSync c log w m → (t : HasTaken n w m)
    → ((why : Refusal) → t.came_so ≢ came.Refused why) → IsStep log w (event.Done c n) (reply.Done answer) v → member_of c v.members ≡ Some k
    → (answer ≡ done.Applied) × NothingFails k × FolderMatches v.shared k

-- A PLAN leaves the folder and what it matches
abbrev pub PlansGoWell : Type 0
PlansGoWell = (log : List LogEntry) (w v : WorldState) (c : ℕ) (m k : MemberState) (r : Reply) → InSync c log w m → FolderMatches w.shared m
    → IsStep log w (event.Plan c) r v → member_of c v.members ≡ Some k → NothingFails k × FolderMatches v.shared k
