-- What follows from the steps of a client.
use Rattle.std.specs.Prelude.{◌≡◌, ◌⊎◌, ℕ, Bool, true, false, All, IfSome, List, Option, None, Some}
use Rattle.std.specs.FinMap.{get}
use Rattle.nuc_base.specs.Changes.{changed}
use Rattle.nuc_base.specs.Trees.{Nodes}
use Rattle.nuc_base.specs.declared.change.Change.{Change}
use Rattle.nuc_base.specs.declared.change.Change.TheVariants.{Put}
use Rattle.nuc_base.specs.declared.node.Node.{Node}
use Rattle.nuc_class.specs.declared.op.Op.{Op}
use Rattle.nuc_edits.specs.Edits.{Recorded}
use Rattle.nuc_flights.specs.Flights.{Flight, flight_of}
use Rattle.nuc_flights.specs.declared.taken.Taken.{Taken}
use Rattle.nuc_folder.specs.declared.noticed.Noticed.{Noticed}
use Rattle.nuc_journal.specs.declared.entry.Entry.{Entry}
use Rattle.nuc_replica.specs.Local.{IsLocal}
use Rattle.nuc_replica.specs.Remote.{Follows, RemoteState, caught_up}
use Rattle.nuc_step.specs.Calls.{MayBeTaken}
use Rattle.nuc_step.specs.Client.{ClientState}
use Rattle.nuc_step.specs.Held.{HeldState}
use Rattle.nuc_step.specs.Planning.{CanPlan, PlanAnswers, Planning}
use Rattle.nuc_step.specs.Scanning.{ScanAnswers}
use Rattle.nuc_step.specs.Sound.{IsClient, MayFly}
use Rattle.nuc_step.specs.Steps.{IsDone, after_fly, after_pull, after_restart, after_start, after_take, is_split}
use Rattle.nuc_step.specs.Watching.{CanWatch, WatchAnswers, Watching}
use Rattle.nuc_step.specs.declared.answers.Planned.{Planned}
use Rattle.nuc_step.specs.declared.answers.Scanned.{Scanned}
use Rattle.nuc_step.specs.declared.answers.WatchReply.{WatchReply}
use Rattle.nuc_step.specs.declared.reply.DoneReply.{DoneReply}

-- a Done ends in one way
abbrev pub OneEnd : Type 0
OneEnd = (n : ℕ) (c d b : ClientState) (e f g : Recorded) (r q : DoneReply) → IsDone n c e r d f → IsDone n c e q b g → (r ≡ q) × (d ≡ b) × (f ≡ g)

-- WHAT A DONE WRITES. A tree gets at most one change, of the identity x
abbrev pub ChangedOnce : Nodes → ℕ → Nodes → Type 0
ChangedOnce m x k = (change : Change) × (k ≡ changed m x change)

-- in Local that is the operation's identity; a split first changes the identity that it gives the local version to
abbrev pub WritesLocal : Bool → Op → Nodes → Nodes → Type 0
WritesLocal true op m k = (between : Nodes) × ChangedOnce m op.other.0 between × ChangedOnce between op.id.0 k
WritesLocal false op m k = ChangedOnce m op.id.0 k

-- Remote takes entries that were heard of, up to a revision, or nothing
abbrev pub WritesRemote : RemoteState → RemoteState → Type 0
WritesRemote remote after = (after ≡ remote) ⊎ ((rev : ℕ) × (after ≡ caught_up rev remote))

pub record Writes (op : Op) (c d : ClientState) : Type 0 where
  pub remote : WritesRemote c.remote d.remote
  pub local : WritesLocal (is_split op.verb) op c.local.tree d.local.tree
  pub synced : ChangedOnce c.synced op.id.0 d.synced

-- where nothing of that number is in flight, it writes nothing
abbrev pub WritesOf : Option Flight → ClientState → ClientState → Type 0
WritesOf None c d = d ≡ c
WritesOf (Some flight) c d = Writes flight.op c d

abbrev pub DoneWritesOnce : Type 0
DoneWritesOnce = (n : ℕ) (c d : ClientState) (e f : Recorded) (r : DoneReply) → IsDone n c e r d f → WritesOf (flight_of n c.flights) c d

-- what is in the folder before a Done and after it has one key, so it is one file there, whatever its name and folder
abbrev pub StayingKeepsKey : Type 0
StayingKeepsKey = (n : ℕ) (c d : ClientState) (e f : Recorded) (r : DoneReply) (x : ℕ) (before after : Node) → IsDone n c e r d f
    → get c.local.tree x ≡ Some before → get d.local.tree x ≡ Some after → get d.local.keys x ≡ get c.local.keys x

-- an operation that puts a node where one is, as a move does, leaves the key as it was
abbrev pub MoveKeepsKey : Type 0
MoveKeepsKey = (n : ℕ) (c d : ClientState) (e f : Recorded) (r : DoneReply) (flight : Flight) (before after : Node) → flight_of n c.flights ≡ Some flight
    → is_split flight.op.verb ≡ false → flight.op.local ≡ Put after → get c.local.tree flight.op.id.0 ≡ Some before → IsDone n c e r d f
    → get d.local.keys flight.op.id.0 ≡ get c.local.keys flight.op.id.0

-- each step keeps a client
pub record StepsKeep (c : ClientState) : Type 0 where
  pub fly : (ops : List Op) → All MayFly ops → IsClient (after_fly ops c)
  pub start : (n : ℕ) → IsClient (after_start n c)
  pub take : (n : ℕ) (t : Taken) (news : List Entry) → Follows c.remote news → IfSome (flight_of n c.flights) (MayBeTaken c.remote news t)
      → IsClient (after_take n t news c)
  pub done : (n : ℕ) (d : ClientState) (e f : Recorded) (r : DoneReply) → IsDone n c e r d f → IsClient d
  pub pull : (page : List Entry) → Follows c.remote page → IsClient (after_pull page c)
  pub restart : IsClient (after_restart c)

abbrev pub StepsKeepClients : Type 0
StepsKeepClients = (c : ClientState) → IsClient c → StepsKeep c

-- whatever a plan makes of a client, it is one after it, and its trees fit together again, below the next identity
abbrev pub PlansKeepClients : Type 0
PlansKeepClients = (p q : Planning) (answer : Planned) → IsClient p.client → CanPlan p.client p.next_id → PlanAnswers p answer q
    → IsClient q.client × CanPlan q.client q.next_id

-- after a watched change another may come, and a scan
abbrev pub WatchesKeep : Type 0
WatchesKeep = (w v : Watching) (change : Noticed) (answer : WatchReply) → CanWatch w.client w.recorded w.ids → WatchAnswers w change answer v
    → CanWatch v.client v.recorded v.ids

-- so they may after a scan
abbrev pub ScansKeep : Type 0
ScansKeep = (h g : HeldState) (w v : Watching) (answer : Scanned) → IsLocal w.client.local → CanWatch w.client w.recorded w.ids → ScanAnswers h w answer g v
    → CanWatch v.client v.recorded v.ids
