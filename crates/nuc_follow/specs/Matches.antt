-- When a folder holds just what Local says.
use Rattle.std.specs.Prelude.{◌≡◌, ℕ, List, Option, None, Some}
use Rattle.std.specs.FinMap.{get}
use Rattle.nuc_base.specs.declared.node.Kind.{Kind}
use Rattle.nuc_base.specs.declared.node.Kind.TheVariants.{Folder, File}
use Rattle.nuc_base.specs.declared.node.Node.{Node}
use Rattle.nuc_edits.specs.Edits.{content_at}
use Rattle.nuc_edits.specs.declared.edit.Edit.{Edit}
use Rattle.nuc_filework.specs.Calls.{key_place}
use Rattle.nuc_folder.specs.State.{FolderState, place_of}
use Rattle.nuc_folder.specs.declared.key_place.KeyPlace.{KeyPlace}
use Rattle.nuc_hash.specs.Content.{ContentData, content_of}
use Rattle.nuc_observe.specs.Keys.{KeyMap}
use Rattle.nuc_replica.specs.Local.{IsLocal, LocalState}

-- in a folder each file has version 1, and a folder none
abbrev pub held_ver : Kind → ℕ
held_ver Folder = 0
held_ver File = 1

-- the node as the folder has it, at the place that the folder knows
abbrev pub held_as : KeyPlace → Node → Node
held_as p n = record { place = place_of p; kind = n.kind; ver = record { 0 = held_ver n.kind }; bit = n.bit }

-- the bytes have the hash of the content that was recorded
abbrev pub HasRecorded : Option ContentData → Option (List ℕ) → Type 0
HasRecorded None bytes = ⊥
HasRecorded (Some content) None = ⊥
HasRecorded (Some content) (Some bytes) = (content_of bytes).hash ≡ content.hash

-- a file has the bytes of its version, and a folder has none
abbrev pub HasContent : List Edit → Kind → ℕ → Option (List ℕ) → Type 0
HasContent es Folder ver bytes = bytes ≡ None
HasContent es File ver bytes = HasRecorded (content_at es ver) bytes

-- the node is held under the key k: below its parent's key, with its name, its kind, its bit and its content
pub record IsHeldAs (es : List Edit) (keys : KeyMap) (n : Node) (k : ℕ) (s : FolderState) : Type 0 where
  pub place : KeyPlace
  pub known : key_place keys n.place ≡ Some place
  pub node : get s.tree k ≡ Some (held_as place n)
  pub bytes : HasContent es n.kind n.ver.0 (get s.bytes k)

-- just what Local has, has a key, each another; what has one is held under it, and nothing else is held
pub record Matches (es : List Edit) (l : LocalState) (s : FolderState) : Type 0 where
  pub local : IsLocal l
  pub held : (x k : ℕ) (n : Node) → get l.keys x ≡ Some k → get l.tree x ≡ Some n → IsHeldAs es l.keys n k s
  pub known : (k : ℕ) (h : Node) → get s.tree k ≡ Some h → (x : ℕ) × (get l.keys x ≡ Some k)
