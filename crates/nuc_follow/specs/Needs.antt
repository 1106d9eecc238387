-- What an operation needs to succeed in a folder that matches Local.
use Rattle.std.specs.Prelude.{◌≡◌, ◌<◌, ℕ, Bool, true, false, List, Option, None, Some}
use Rattle.std.specs.FinMap.{get}
use Rattle.std.specs.Str.{bytes_eq}
use Rattle.nuc_base.specs.declared.change.Change.{Change}
use Rattle.nuc_base.specs.declared.change.Change.TheVariants.{Keep, Put, Cut}
use Rattle.nuc_base.specs.declared.node.Kind.{Kind}
use Rattle.nuc_base.specs.declared.node.Kind.TheVariants.{Folder, File}
use Rattle.nuc_base.specs.declared.node.Node.{Node}
use Rattle.nuc_edits.specs.Edits.{content_at}
use Rattle.nuc_edits.specs.declared.edit.Edit.{Edit}
use Rattle.nuc_filework.specs.Calls.{key_of}
use Rattle.nuc_hash.specs.Content.{ContentData, content_of}
use Rattle.nuc_hash.specs.declared.digest.Digest.{Digest}
use Rattle.nuc_observe.specs.Keys.{KeyMap}

-- KEYS. The client's own keys may be behind those that the folder matches, where other operations were made in the folder and
-- aren't done yet: they are to agree on the identities that this one speaks of
abbrev pub ParentAgrees : KeyMap → KeyMap → Option Node → Type 0
ParentAgrees own keys None = Unit {0}
ParentAgrees own keys (Some n) = key_of own n.place.parent.0 ≡ key_of keys n.place.parent.0

abbrev pub put_by : Change → Option Node
put_by Keep = None
put_by (Put n) = Some n
put_by Cut = None

pub record KeysAgree (own keys : KeyMap) (x : ℕ) (old : Option Node) (local : Change) : Type 0 where
  pub mine : get own x ≡ get keys x
  pub from : ParentAgrees own keys old
  pub to : ParentAgrees own keys (put_by local)

-- each key is below n
abbrev pub AreKeysBelow : KeyMap → ℕ → Type 0
AreKeysBelow own n = (x k : ℕ) → get own x ≡ Some k → k < n

-- CONTENTS
-- the content of a file is the recorded one of its version
abbrev pub IsContentOf : List Edit → Kind → ℕ → ContentData → Type 0
IsContentOf es Folder ver content = Unit {0}
IsContentOf es File ver content = content_at es ver ≡ Some content

-- a folder has no content, and so no other one
abbrev pub IsSameUnlessFile : Kind → Digest → Digest → Type 0
IsSameUnlessFile Folder seen wanted = seen ≡ wanted
IsSameUnlessFile File seen wanted = Unit {0}

-- bytes of this hash are at hand
abbrev pub AreGiven : Bool → List ℕ → Digest → Type 0
AreGiven given bytes hash = (given ≡ true) × ((content_of bytes).hash ≡ hash)

-- those of a new file
abbrev pub HasNewBytes : Kind → Bool → List ℕ → Digest → Type 0
HasNewBytes Folder given bytes hash = Unit {0}
HasNewBytes File given bytes hash = AreGiven given bytes hash

-- what there is to know of contents, and the bytes that are written are there: for what was there, where its content changes,
-- and for a new file
abbrev pub HasContents : List Edit → Option Node → Option Node → ContentData → ContentData → Bool → List ℕ → Type 0
HasContents es None None seen wanted given bytes = Unit {0}
HasContents es (Some old) None seen wanted given bytes = IsContentOf es old.kind old.ver.0 seen
HasContents es None (Some new) seen wanted given bytes = IsContentOf es new.kind new.ver.0 wanted × HasNewBytes new.kind given bytes wanted.hash
HasContents es (Some old) (Some new) seen wanted given bytes =
    IsContentOf es old.kind old.ver.0 seen × IsContentOf es new.kind new.ver.0 wanted × IsSameUnlessFile old.kind seen.hash wanted.hash
    × (bytes_eq seen.hash.0 wanted.hash.0 ≡ false → AreGiven given bytes wanted.hash)
