-- What is always so of a client.
use Rattle.std.specs.Prelude.{◌≡◌, ◌≢◌, ◌+◌, ◌*◌, ◌<◌, ◌≤◌, ℕ, Bool, true, false, All, List, [], ◌∷◌, length, Option, None, Some}
use Rattle.std.specs.FinMap.{get}
use Rattle.nuc_base.specs.Trees.{WellFormed}
use Rattle.nuc_base.specs.declared.change.Change.{Change}
use Rattle.nuc_base.specs.declared.change.Change.TheVariants.{Keep, Put, Cut}
use Rattle.nuc_base.specs.declared.node.Node.{Node}
use Rattle.nuc_class.specs.Due.{FitsOp}
use Rattle.nuc_class.specs.declared.op.Op.{Op}
use Rattle.nuc_flights.specs.Flights.{Flight, FlightsState, Stage, planned, started, taken}
use Rattle.nuc_flights.specs.declared.taken.Taken.{Taken}
use Rattle.nuc_flights.specs.declared.taken.Taken.TheVariants as came
use Rattle.nuc_folder.specs.declared.outcome.Outcome.{Outcome}
use Rattle.nuc_folder.specs.declared.outcome.Outcome.TheVariants as outcome
use Rattle.nuc_replica.specs.Local.{IsLocal, LocalStates}
use Rattle.nuc_replica.specs.Remote.{IsRemote, RemoteState, RemoteStates}
use Rattle.nuc_step.specs.Client.{ClientState, state_now, state_then}
use Rattle.nuc_step.specs.Steps.{is_split}
use Rattle.nuc_step.specs.declared.counts.Counts.{Counts}
use Rattle.nuc_undo.specs.Laid.{Laid}
use Rattle.nuc_undo.specs.State.{UndoState, settled_of}

abbrev pub IsPut : Change → Type 0
IsPut Keep = ⊥
IsPut (Put n) = Unit {0}
IsPut Cut = ⊥

-- a split has another identity beside its own, which gets a node
abbrev pub HasOther : Bool → ℕ → ℕ → Change → Type 0
HasOther true x z c = (0 < z) × (x ≢ z) × IsPut c
HasOther false x z c = Unit {0}

-- what an operation must be to fly: its nodes fit their kinds, and its identities aren't the root
pub record MayFly (op : Op) : Type 0 where
  pub id : 0 < op.id.0
  pub other : HasOther (is_split op.verb) op.id.0 op.other.0 op.local
  pub fits : FitsOp op

-- the folder is to make something new: a node comes to Local where none was, and it isn't one that a split hands on
abbrev pub makes : Bool → Option Node → Change → Bool
makes false None (Put n) = true
makes _ _ _ = false

abbrev pub makes_new : Op → Bool
makes_new op = makes (is_split op.verb) op.old_local op.local

-- what is made has a key, and nothing else that succeeds has one
abbrev pub FitsOutcome : Op → Outcome → Type 0
FitsOutcome op outcome.Ok = makes_new op ≡ false
FitsOutcome op (outcome.Made k) = (makes_new op ≡ true) × (0 < k.0)
FitsOutcome op _ = Unit {0}

-- the operation may be taken so by a client that knows entries up to this revision
abbrev pub FitsTaken : ℕ → Op → Taken → Type 0
FitsTaken known op (came.Folder o) = FitsOutcome op o
FitsTaken known op (came.Accepted rev) = rev ≤ known
FitsTaken known op (came.Refused r) = Unit {0}

abbrev pub FitsStage : ℕ → Op → Stage → Type 0
FitsStage known op planned = Unit {0}
FitsStage known op started = Unit {0}
FitsStage known op (taken t) = FitsTaken known op t

pub record IsFlight (known : ℕ) (f : Flight) : Type 0 where
  pub op : MayFly f.op
  pub stage : FitsStage known f.op f.stage

-- the revision up to which a remote knows entries
abbrev pub known_to : RemoteState → ℕ
known_to remote = remote.cursor + length remote.ahead

-- the numbers rise, and are below the next
abbrev pub AreNumbered : List Flight → ℕ → Type 0
AreNumbered [] next = Unit {0}
AreNumbered (f ∷ fs) next = (f.op.number < next) × All (λ g. f.op.number < g.op.number) fs × AreNumbered fs next

-- the trees are well formed, Remote is at its cursor, keys follow Local, and each operation in flight may be there
pub record IsClient (c : ClientState) : Type 0 where
  pub remote : IsRemote c.remote
  pub local : IsLocal c.local
  pub synced : WellFormed c.synced
  pub flights : All (IsFlight (known_to c.remote)) c.flights
  pub numbers : AreNumbered c.flights c.next_op

-- HOW A CLIENT IS KEPT, so that a Done takes no memory. The node that a change puts is laid by under the number
abbrev pub IsLaid : Laid → ℕ → Change → Type 0
IsLaid laid n Keep = Unit {0}
IsLaid laid n (Put node) = get laid n ≡ Some node
IsLaid laid n Cut = Unit {0}

pub record AreLaid (l s : Laid) (f : Flight) : Type 0 where
  pub local : IsLaid l f.op.number f.op.local
  pub synced : IsLaid s f.op.number f.op.synced

-- for each operation there is room for its changes: two in Local, one in Synced
pub record HasRoom (flights : List Flight) (l s : ℕ) : Type 0 where
  pub local : 2 * length flights ≤ l
  pub synced : length flights ≤ s

-- the same is laid by now and once all changes are taken back, from this number on
abbrev pub AreUntaken : Laid → Laid → ℕ → Type 0
AreUntaken laid laid_then next = (n : ℕ) → next ≤ n → get laid n ≡ get laid_then n

-- so many changes more can be counted
abbrev pub CanCount : ℕ → List Flight → Type 0
CanCount changes flights = changes + length flights < 18446744073709551616

pub record IsKept (r : RemoteStates) (l : LocalStates) (s : UndoState) (fs : FlightsState) (counts counts_then : Counts) : Type 0 where
  pub now : IsClient (state_now r l s fs counts)
  pub settled : IsClient (state_then r l s fs counts_then)
  pub later : counts_then.next_op ≤ counts.next_op
  pub room : HasRoom fs.now l.spare s.spare
  pub room_then : HasRoom fs.settled l.spare_then (s.spare + length s.past)
  pub laid : All (AreLaid l.laid s.laid) fs.now
  pub laid_then : All (AreLaid l.laid_then s.laid_then) fs.settled
  pub local_untaken : AreUntaken l.laid l.laid_then counts.next_op
  pub synced_untaken : AreUntaken s.laid s.laid_then counts.next_op
  pub count : CanCount counts.changes fs.now
  pub count_then : CanCount counts_then.changes fs.settled

-- WHAT A PART OF A DONE LEAVES. A change of Local or of Synced leaves what it leads back to, takes at most so much of the
-- room, and touches nothing that is laid by but what lies under one number
pub record ChangedSynced (n : ℕ) (s t : UndoState) : Type 0 where
  pub settled : settled_of t ≡ settled_of s
  pub laid_then : t.laid_then ≡ s.laid_then
  pub spare : s.spare ≤ t.spare + 1
  pub spare_then : s.spare + length s.past ≤ t.spare + length t.past
  pub laid : (i : ℕ) → i ≢ n → get t.laid i ≡ get s.laid i

pub record ChangedOne (n : ℕ) (s t : LocalStates) : Type 0 where
  pub settled : t.settled ≡ s.settled
  pub laid_then : t.laid_then ≡ s.laid_then
  pub spare : s.spare ≤ t.spare + 2
  pub spare_then : s.spare_then ≤ t.spare_then
  pub laid : (i : ℕ) → i ≢ n → get t.laid i ≡ get s.laid i

-- settled, and while anything flies all that lies by stays
abbrev pub StaysLaid : ℕ → Laid → Laid → Type 0
StaysLaid flying laid after = 0 < flying → after ≡ laid

pub record SettlesLocal (flying : ℕ) (s t : LocalStates) : Type 0 where
  pub now : t.now ≡ s.now
  pub settled : t.settled ≡ s.now
  pub spare : s.spare ≤ t.spare
  pub spare_then : s.spare ≤ t.spare_then
  pub laid : StaysLaid flying s.laid t.laid
  pub laid_then : t.laid_then ≡ t.laid

pub record SettlesSynced (flying : ℕ) (s t : UndoState) : Type 0 where
  pub now : t.now ≡ s.now
  pub past : t.past ≡ []
  pub spare : s.spare ≤ t.spare
  pub laid : StaysLaid flying s.laid t.laid
  pub laid_then : t.laid_then ≡ t.laid
