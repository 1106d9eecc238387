-- What a client holds, and that its steps bring nothing else.
use Rattle.std.specs.Prelude.{◌≡◌, ◌⊎◌, ℕ, Bool, true, false, Any, List, Option, None, Some}
use Rattle.std.specs.FinMap.{get}
use Rattle.nuc_base.specs.declared.change.Change.{Change}
use Rattle.nuc_base.specs.declared.change.Change.TheVariants.{Keep, Put, Cut}
use Rattle.nuc_base.specs.declared.node.Kind.{Kind}
use Rattle.nuc_base.specs.declared.node.Node.{Node}
use Rattle.nuc_class.specs.declared.op.Op.{Op}
use Rattle.nuc_edits.specs.Edits.{Recorded}
use Rattle.nuc_flights.specs.declared.taken.Taken.{Taken}
use Rattle.nuc_journal.specs.declared.entry.Entry.{Entry}
use Rattle.nuc_step.specs.Client.{ClientState}
use Rattle.nuc_step.specs.Steps.{IsDone, after_fly, after_pull, after_restart, after_start, after_take, is_split}
use Rattle.nuc_step.specs.declared.reply.DoneReply.{DoneReply}

-- a node of this kind and this version
abbrev pub IsOf : Kind → ℕ → Option Node → Type 0
IsOf k v None = ⊥
IsOf k v (Some n) = (n.kind ≡ k) × (n.ver.0 ≡ v)

abbrev pub Puts : Kind → ℕ → Change → Type 0
Puts k v Keep = ⊥
Puts k v (Put n) = (n.kind ≡ k) × (n.ver.0 ≡ v)
Puts k v Cut = ⊥

-- an entry gives x such a node
abbrev pub EntryBrings : ℕ → Kind → ℕ → Entry → Type 0
EntryBrings x k v e = (e.id.0 ≡ x) × IsOf k v e.value

-- the identity that an operation puts a node at in Local
abbrev pub local_id : Bool → Op → ℕ
local_id true op = op.other.0
local_id false op = op.id.0

-- an operation has such a node for x: one that it puts, or one over which it was planned
pub data OpHolds (x : ℕ) (k : Kind) (v : ℕ) (op : Op) : Type 0 where
  remote : op.id.0 ≡ x → Puts k v op.remote → OpHolds x k v op
  local : local_id (is_split op.verb) op ≡ x → Puts k v op.local → OpHolds x k v op
  synced : op.id.0 ≡ x → Puts k v op.synced → OpHolds x k v op
  old_local : op.id.0 ≡ x → IsOf k v op.old_local → OpHolds x k v op
  old_synced : op.id.0 ≡ x → IsOf k v op.old_synced → OpHolds x k v op

-- a client has, somewhere, such a node for x: in one of its trees, among the entries that it has heard of, or in an
-- operation in flight
pub data Holds (c : ClientState) (x : ℕ) (k : Kind) (v : ℕ) : Type 0 where
  remote : IsOf k v (get c.remote.tree x) → Holds c x k v
  local : IsOf k v (get c.local.tree x) → Holds c x k v
  synced : IsOf k v (get c.synced x) → Holds c x k v
  ahead : Any (EntryBrings x k v) c.remote.ahead → Holds c x k v
  flight : Any (λ f. OpHolds x k v f.op) c.flights → Holds c x k v

-- what it holds after a step it held before, or the step brought it: the operations that fly, the page that was pulled, the
-- news of an accepted commit; a start, a Done and a restart bring nothing
pub record BringsNothingElse (c : ClientState) : Type 0 where
  pub fly : (ops : List Op) (x : ℕ) (k : Kind) (v : ℕ) → Holds (after_fly ops c) x k v → Holds c x k v ⊎ Any (OpHolds x k v) ops
  pub pull : (page : List Entry) (x : ℕ) (k : Kind) (v : ℕ) → Holds (after_pull page c) x k v → Holds c x k v ⊎ Any (EntryBrings x k v) page
  pub start : (n x : ℕ) (k : Kind) (v : ℕ) → Holds (after_start n c) x k v → Holds c x k v
  pub take : (n : ℕ) (t : Taken) (news : List Entry) (x : ℕ) (k : Kind) (v : ℕ) → Holds (after_take n t news c) x k v
      → Holds c x k v ⊎ Any (EntryBrings x k v) news
  pub done : (n : ℕ) (d : ClientState) (e f : Recorded) (r : DoneReply) (x : ℕ) (k : Kind) (v : ℕ) → IsDone n c e r d f → Holds d x k v → Holds c x k v
  pub restart : (x : ℕ) (k : Kind) (v : ℕ) → Holds (after_restart c) x k v → Holds c x k v

abbrev pub StepsBringNothingElse : Type 0
StepsBringNothingElse = (c : ClientState) → BringsNothingElse c
