-- The three parts of the proof: what is always so of the folders of a world whose log keeps to the bounds of a script.
use Rattle.std.proofs.Common.{◌≡◌, ℕ, List, Some}
use Rattle.std.specs.FinMap.{get}
use Rattle.nuc_base.specs.Names.{IsName}
use Rattle.nuc_base.specs.declared.node.Node.{Node}
use Rattle.nuc_hash.specs.Content.{content_of}
use Rattle.nuc_log.specs.declared.log.LogEntry.{LogEntry}
use Rattle.nuc_observe.specs.Listing.{IsShort}
use Rattle.nuc_world.specs.Runs.{Reaches}
use Rattle.nuc_world.specs.State.{MemberState, WorldState, member_of}
use Rattle.nuc_fit.specs.Bounds.{KeepsToBounds}

-- a client's folder has this
abbrev pub InEachFolder : (MemberState → Type 0) → Type 0
InEachFolder P = (log : List LogEntry) (w : WorldState) (c : ℕ) (m : MemberState) → KeepsToBounds log → Reaches log w → member_of c w.members ≡ Some m → P m

-- names are names
abbrev pub HasNames : MemberState → Type 0
HasNames m = (x : ℕ) (n : Node) → get m.folder.held.tree x ≡ Some n → IsName n.place.name

-- no file is too large
abbrev pub HasShortFiles : MemberState → Type 0
HasShortFiles m = (x : ℕ) (bytes : List ℕ) → get m.folder.held.bytes x ≡ Some bytes → IsShort (Some (content_of bytes))

-- what Local has under a key is of the kind that the folder has there
abbrev pub HasOneKind : MemberState → Type 0
HasOneKind m = (x k : ℕ) (n h : Node) → get m.client.local.keys x ≡ Some k → get m.client.local.tree x ≡ Some n → get m.folder.held.tree k ≡ Some h → n.kind ≡ h.kind
