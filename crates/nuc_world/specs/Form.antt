-- What is always so of a world.
use Rattle.std.specs.Prelude.{◌≡◌, ◌≢◌, ◌<◌, ℕ, All, IfSome, List, Option, None, Some}
use Rattle.std.specs.FinMap.{get}
use Rattle.nuc_base.specs.declared.node.Kind.{Kind}
use Rattle.nuc_base.specs.declared.node.Kind.TheVariants.{Folder, File}
use Rattle.nuc_class.specs.declared.op.Effect.TheVariants as effect
use Rattle.nuc_class.specs.declared.op.Op.{Op}
use Rattle.nuc_class.specs.declared.op.Verb.TheVariants as verb
use Rattle.nuc_edits.specs.Edits.{IsNext, WasPut}
use Rattle.nuc_edits.specs.declared.edit.Edit.{Edit}
use Rattle.nuc_flights.specs.Flights.{Stage, flight_of, planned, started, taken}
use Rattle.nuc_flights.specs.declared.taken.Taken.{Taken}
use Rattle.nuc_flights.specs.declared.taken.Taken.TheVariants as came
use Rattle.nuc_folder.specs.Memory.{MemState}
use Rattle.nuc_folder.specs.State.{KeysBelow}
use Rattle.nuc_folder.specs.declared.noticed.Noticed.{Noticed}
use Rattle.nuc_folder.specs.declared.noticed.Noticed.TheVariants as noticed
use Rattle.nuc_folder.specs.declared.outcome.Outcome.{Outcome}
use Rattle.nuc_folder.specs.declared.outcome.Outcome.TheVariants as outcome
use Rattle.nuc_journal.specs.Journal.{IsJournal}
use Rattle.nuc_journal.specs.declared.entry.Entry.{Entry}
use Rattle.nuc_observe.specs.Keys.{KeyMap}
use Rattle.nuc_replica.specs.Following.{IsAt}
use Rattle.nuc_server.specs.Judge.{IsCommit}
use Rattle.nuc_server.specs.WebEdits.{IsNextId, WebState}
use Rattle.nuc_step.specs.Client.{ClientState}
use Rattle.nuc_step.specs.Held.{HeldData}
use Rattle.nuc_step.specs.Holdings.{EntryBrings, Holds}
use Rattle.nuc_step.specs.Sound.{IsClient}
use Rattle.nuc_step.specs.Stages.{started_of}
use Rattle.nuc_world.specs.State.{MemberState, WorldState}
use Rattle.nuc_world.specs.Takes.{commit_of}

-- WHAT FLIES can be carried out: a commit is one that a client may ask for, and what needs no work outside doesn't fly
abbrev pub MayCommit : Op → Type 0
MayCommit op = op.effect ≡ effect.Commit → IsCommit (commit_of op)

pub record CanFly (op : Op) : Type 0 where
  pub commit : MayCommit op
  pub works : op.effect ≢ effect.Nothing
  pub two : op.verb ≢ verb.Adopt

-- an operation that has begun can be taken by a client that is at its cursor
pub record CanTake (n : ℕ) (entries : List Entry) (c : ClientState) : Type 0 where
  pub op : IfSome (started_of (flight_of n c.flights)) CanFly
  pub at : IsAt entries c.remote

-- WHAT IS HELD: a node of an identity fits the kinds, its identity is below the next, and a file's version was put
abbrev pub IsPutAs : List Edit → Kind → ℕ → Type 0
IsPutAs edits Folder v = v ≡ 0
IsPutAs edits File v = WasPut edits v

pub record IsKnown (s : WebState) (kind_of : ℕ → Kind) (x : ℕ) (k : Kind) (v : ℕ) : Type 0 where
  pub kind : k ≡ kind_of x
  pub below : x < s.ids.next_id
  pub put : IsPutAs s.edits.edits k v

-- each key was given by the folder
abbrev pub AreGiven : KeyMap → ℕ → Type 0
AreGiven keys next = (x key : ℕ) → get keys x ≡ Some key → key < next

-- so was the key of what an operation in flight has made
abbrev pub IsMadeBelow : ℕ → Outcome → Type 0
IsMadeBelow next (outcome.Made key) = key.0 < next
IsMadeBelow next _ = Unit {0}

abbrev pub IsTakenBelow : ℕ → Taken → Type 0
IsTakenBelow next (came.Folder o) = IsMadeBelow next o
IsTakenBelow next (came.Accepted rev) = Unit {0}
IsTakenBelow next (came.Refused why) = Unit {0}

abbrev pub IsStageBelow : ℕ → Stage → Type 0
IsStageBelow next planned = Unit {0}
IsStageBelow next started = Unit {0}
IsStageBelow next (taken t) = IsTakenBelow next t

-- and so was each key of what the folder holds, of what it tells that a user made, and of what it has listed
abbrev pub IsNoticeBelow : ℕ → Noticed → Type 0
IsNoticeBelow next (noticed.Made item) = item.key.0 < next
IsNoticeBelow next _ = Unit {0}

abbrev pub IsListedBelow : ℕ → Option HeldData → Type 0
IsListedBelow next None = Unit {0}
IsListedBelow next (Some listing) = All (λ item. item.key.0 < next) listing.items

pub record AllGiven (folder : MemState) (listing : Option HeldData) : Type 0 where
  pub held : KeysBelow folder.next folder.held
  pub pending : All (IsNoticeBelow folder.next) folder.pending
  pub listed : IsListedBelow folder.next listing

-- a client with its folder, in a world with these kinds
pub record IsMember (s : WebState) (kind_of : ℕ → Kind) (m : MemberState) : Type 0 where
  pub client : IsClient m.client
  pub at : IsAt s.entries m.client.remote
  pub holds : (x : ℕ) (k : Kind) (v : ℕ) → Holds m.client x k v → IsKnown s kind_of x k v
  pub flights : All (λ f. CanFly f.op) m.client.flights
  pub keys : AreGiven m.client.local.keys m.folder.next
  pub made : All (λ f. IsStageBelow m.folder.next f.stage) m.client.flights
  pub given : AllGiven m.folder m.listing

-- what all share
pub record IsShared (s : WebState) (kind_of : ℕ → Kind) : Type 0 where
  pub journal : IsJournal s.entries
  pub next_id : IsNextId s.ids.next_id s.entries
  pub next_ver : IsNext s.ids.next_ver s.edits.edits
  pub entries : (x : ℕ) (k : Kind) (v : ℕ) → All (λ e. EntryBrings x k v e → IsKnown s kind_of x k v) s.entries

-- an identity has one kind in all trees and all entries
pub record IsWorld (w : WorldState) : Type 0 where
  pub kind_of : ℕ → Kind
  pub shared : IsShared w.shared kind_of
  pub members : All (IsMember w.shared kind_of) w.members
