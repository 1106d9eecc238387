-- Which folder has nothing that a scan must refuse.
use Rattle.std.specs.Prelude.{◌≡◌, ℕ, List, Some}
use Rattle.std.specs.FinMap.{get}
use Rattle.nuc_base.specs.Names.{IsName}
use Rattle.nuc_base.specs.Trees.{Nodes}
use Rattle.nuc_base.specs.declared.node.Node.{Node}
use Rattle.nuc_folder.specs.State.{FolderState}
use Rattle.nuc_hash.specs.Content.{content_of}
use Rattle.nuc_observe.specs.Keys.{KeyMap}
use Rattle.nuc_observe.specs.Listing.{IsShort}
use Rattle.nuc_world.specs.State.{MemberState}

-- names are names, a file isn't too large, and what Local has under a key is of the kind that the folder has there
pub record AreFit (keys : KeyMap) (l : Nodes) (s : FolderState) : Type 0 where
  pub names : (x : ℕ) (n : Node) → get s.tree x ≡ Some n → IsName n.place.name
  pub short : (x : ℕ) (bytes : List ℕ) → get s.bytes x ≡ Some bytes → IsShort (Some (content_of bytes))
  pub kinds : (x k : ℕ) (n h : Node) → get keys x ≡ Some k → get l x ≡ Some n → get s.tree k ≡ Some h → n.kind ≡ h.kind

-- a client's folder, beside its Local
abbrev pub FolderIsFit : MemberState → Type 0
FolderIsFit m = AreFit m.client.local.keys m.client.local.tree m.folder.held
