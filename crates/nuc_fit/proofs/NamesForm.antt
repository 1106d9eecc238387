-- What it is that each name in a world is a name.
use Rattle.std.specs.Prelude.{◌≡◌, ◌≤◌, ℕ, All, Option, None, Some, length}
use Rattle.std.specs.FinMap.{get}
use Rattle.nuc_base.specs.Names.{IsName}
use Rattle.nuc_base.specs.Trees.{Nodes}
use Rattle.nuc_base.specs.declared.change.Change.{Change}
use Rattle.nuc_base.specs.declared.change.Change.TheVariants.{Keep, Put, Cut}
use Rattle.nuc_base.specs.declared.node.Node.{Node}
use Rattle.nuc_class.specs.declared.op.Op.{Op}
use Rattle.nuc_folder.specs.Memory.{MemState}
use Rattle.nuc_folder.specs.declared.listed.TheConstants.{MOST_ITEMS}
use Rattle.nuc_folder.specs.declared.noticed.Noticed.{Noticed}
use Rattle.nuc_folder.specs.declared.noticed.Noticed.TheVariants as noticed
use Rattle.nuc_journal.specs.declared.entry.Entry.{Entry}
use Rattle.nuc_replica.specs.Remote.{RemoteState}
use Rattle.nuc_step.specs.Client.{ClientState}
use Rattle.nuc_step.specs.Held.{HeldData}

-- of a tree, of what may stand in one, and of what is put in one
abbrev pub Named : Nodes → Type 0
Named m = (x : ℕ) (n : Node) → get m x ≡ Some n → IsName n.place.name

abbrev pub NamedValue : Option Node → Type 0
NamedValue None = Unit {0}
NamedValue (Some n) = IsName n.place.name

abbrev pub NamedChange : Change → Type 0
NamedChange Keep = Unit {0}
NamedChange (Put n) = IsName n.place.name
NamedChange Cut = Unit {0}

pub record NamedOp (op : Op) : Type 0 where
  pub remote : NamedChange op.remote
  pub local : NamedChange op.local
  pub synced : NamedChange op.synced

abbrev pub NamedEntry : Entry → Type 0
NamedEntry e = NamedValue e.value

-- of a client
pub record NamedRemote (r : RemoteState) : Type 0 where
  pub tree : Named r.tree
  pub ahead : All NamedEntry r.ahead

pub record NamedClient (c : ClientState) : Type 0 where
  pub remote : NamedRemote c.remote
  pub local : Named c.local.tree
  pub synced : Named c.synced
  pub flights : All (λ f. NamedOp f.op) c.flights

-- of a folder. What it tells was made is looked at anew when it comes
abbrev pub NamedNotice : Noticed → Type 0
NamedNotice (noticed.Made item) = Unit {0}
NamedNotice (noticed.Written key content) = Unit {0}
NamedNotice (noticed.Moved key place) = IsName place.name
NamedNotice (noticed.Removed key) = Unit {0}
NamedNotice (noticed.Bit key bit) = Unit {0}

pub record NamedFolder (f : MemState) : Type 0 where
  pub held : Named f.held.tree
  pub pending : All NamedNotice f.pending

-- a listing that is held isn't too long
abbrev pub IsListedFew : Option HeldData → Type 0
IsListedFew None = Unit {0}
IsListedFew (Some listing) = length listing.items ≤ MOST_ITEMS
