-- What one change by a user makes of what a folder holds, or why it is refused. Each leads from the first state to the
-- last, and the notice tells of it.
use Rattle.std.specs.Prelude.{◌≡◌, ◌⊎◌, ◌+◌, ℕ, Bool, false, List, None, Some}
use Rattle.std.specs.FinMap.{get}
use Rattle.nuc_base.specs.SamePlace.{SamePlace}
use Rattle.nuc_base.specs.Trees.{Nodes, IsUnder, IsVacant}
use Rattle.nuc_base.specs.declared.node.Kind.TheVariants.{Folder, File}
use Rattle.nuc_base.specs.declared.node.Node.{Node}
use Rattle.nuc_base.specs.declared.node.Place.{Place}
use Rattle.nuc_hash.specs.Content.{content_of}
use Rattle.nuc_hash.specs.Filling.{filling_bytes}
use Rattle.nuc_paths.specs.Paths.{LeadsNowhere, LeadsTo}
use Rattle.nuc_shelf.specs.Shelf.{ShelfState, file_at, folder_at, marked, moved, refilled, with_file, with_folder}
use Rattle.nuc_folder.specs.Listing.{item_of}
use Rattle.nuc_folder.specs.declared.key_place.KeyPlace.{KeyPlace}
use Rattle.nuc_folder.specs.declared.noticed.Noticed.{Noticed}
use Rattle.nuc_folder.specs.declared.noticed.Noticed.TheVariants as noticed
use Rattle.nuc_folder.specs.declared.user_edit.UserEdit.{UserEdit}
use Rattle.nuc_folder.specs.declared.user_edit.UserEdit.TheVariants as edit
use Rattle.nuc_folder.specs.declared.user_edit.UserReply.{UserReply}
use Rattle.nuc_folder.specs.declared.user_edit.UserReply.TheVariants as reply

-- WHERE A PATH LEADS
-- to x, which has this node
abbrev pub Finds : Nodes → List (List ℕ) → ℕ → Node → Type 0
Finds m names x n = (place : Place) × LeadsTo m 0 names place × (get m x ≡ Some n) × SamePlace n.place place

-- to this place, which nobody has
abbrev pub FindsPlace : Nodes → List (List ℕ) → Place → Type 0
FindsPlace m names place = LeadsTo m 0 names place × IsVacant m place

-- to nobody
abbrev pub FindsNobody : Nodes → List (List ℕ) → Type 0
FindsNobody m names = LeadsNowhere m 0 names ⊎ ((place : Place) × FindsPlace m names place)

abbrev pub FindsSomebody : Nodes → List (List ℕ) → Type 0
FindsSomebody m names = (x : ℕ) × (n : Node) × Finds m names x n

abbrev pub FindsFolder : Nodes → List (List ℕ) → Type 0
FindsFolder m names = (x : ℕ) × (n : Node) × Finds m names x n × (n.kind ≡ Folder)

-- MAKING A FOLDER, under the key
abbrev pub MakesFolder : ℕ → ShelfState → List (List ℕ) → Noticed → ShelfState → Type 0
MakesFolder key s names notice t = (place : Place) × FindsPlace s.tree names place
    × (t ≡ with_folder s key place) × (notice ≡ noticed.Made (item_of key (folder_at place) None))

abbrev pub MakeRefused : Nodes → List (List ℕ) → UserReply → Type 0
MakeRefused m names reply.NoParent = LeadsNowhere m 0 names
MakeRefused m names reply.Taken = FindsSomebody m names
MakeRefused m names reply.Memory = Unit {0}
MakeRefused m names answer = ⊥

-- WRITING A FILE: a new one under the key, without the bit, or one that is there
abbrev pub WritesNew : ℕ → ShelfState → Place → List ℕ → Noticed → ShelfState → Type 0
WritesNew key s place bytes notice t = (t ≡ with_file s key place false bytes) × (notice ≡ noticed.Made (item_of key (file_at place false) (Some bytes)))

abbrev pub WritesOver : ShelfState → ℕ → List ℕ → Noticed → ShelfState → Type 0
WritesOver s x bytes notice t = (t ≡ refilled s x bytes) × (notice ≡ noticed.Written (record { 0 = x }) (content_of bytes))

abbrev pub Writes : ℕ → ShelfState → List (List ℕ) → List ℕ → Noticed → ShelfState → Type 0
Writes key s names bytes notice t =
    ((place : Place) × FindsPlace s.tree names place × WritesNew key s place bytes notice t)
    ⊎ ((x : ℕ) × (n : Node) × Finds s.tree names x n × (n.kind ≡ File) × WritesOver s x bytes notice t)

abbrev pub WriteRefused : Nodes → List (List ℕ) → UserReply → Type 0
WriteRefused m names reply.NoParent = LeadsNowhere m 0 names
WriteRefused m names reply.Kind = FindsFolder m names
WriteRefused m names reply.Memory = Unit {0}
WriteRefused m names answer = ⊥

-- MOVING, to a place that nobody has, and that isn't below what is moved
-- the place as a notice has it
abbrev pub key_place : Place → KeyPlace
key_place p = record { parent = record { 0 = p.parent.0 }; name = p.name }

abbrev pub Moves : ShelfState → List (List ℕ) → List (List ℕ) → Noticed → ShelfState → Type 0
Moves s from to notice t = (x : ℕ) × (n : Node) × (place : Place) × Finds s.tree from x n × FindsPlace s.tree to place × ¬ (IsUnder s.tree place.parent.0 x)
    × (t ≡ moved s x place) × (notice ≡ noticed.Moved (record { 0 = x }) (key_place place))

-- the place is below what is moved, or in it
abbrev pub FindsCycle : Nodes → List (List ℕ) → List (List ℕ) → Type 0
FindsCycle m from to = (x : ℕ) × (n : Node) × (place : Place) × Finds m from x n × FindsPlace m to place × IsUnder m place.parent.0 x

abbrev pub MoveRefused : Nodes → List (List ℕ) → List (List ℕ) → UserReply → Type 0
MoveRefused m from to reply.NoSuch = FindsNobody m from
MoveRefused m from to reply.NoParent = FindsSomebody m from × LeadsNowhere m 0 to
MoveRefused m from to reply.Taken = FindsSomebody m from × FindsSomebody m to
MoveRefused m from to reply.Cycle = FindsCycle m from to
MoveRefused m from to reply.Memory = Unit {0}
MoveRefused m from to answer = ⊥

-- SETTING THE BIT of a file
abbrev pub SetsBit : ShelfState → List (List ℕ) → Bool → Noticed → ShelfState → Type 0
SetsBit s names bit notice t = (x : ℕ) × (n : Node) × Finds s.tree names x n × (n.kind ≡ File)
    × (t ≡ marked s x bit) × (notice ≡ noticed.Bit (record { 0 = x }) bit)

abbrev pub BitRefused : Nodes → List (List ℕ) → UserReply → Type 0
BitRefused m names reply.NoSuch = FindsNobody m names
BitRefused m names reply.Kind = FindsFolder m names
BitRefused m names reply.Memory = Unit {0}
BitRefused m names answer = ⊥

-- REMOVING
abbrev pub RemoveRefused : Nodes → List (List ℕ) → UserReply → Type 0
RemoveRefused m names reply.NoSuch = FindsNobody m names
RemoveRefused m names reply.Memory = Unit {0}
RemoveRefused m names answer = ⊥

-- EDITS
-- an edit is one change: all are but a removal
abbrev pub IsOneChange : UserEdit → Type 0
IsOneChange (edit.Mkdir path) = Unit {0}
IsOneChange (edit.Write path filling) = Unit {0}
IsOneChange (edit.Move from to) = Unit {0}
IsOneChange (edit.Bit path bit) = Unit {0}
IsOneChange (edit.Remove path) = ⊥

-- what an edit makes in one change; what is new gets the key
abbrev pub Does : UserEdit → ℕ → ShelfState → Noticed → ShelfState → Type 0
Does (edit.Mkdir path) key s notice t = MakesFolder key s path.names notice t
Does (edit.Write path filling) key s notice t = Writes key s path.names (filling_bytes filling) notice t
Does (edit.Move from to) key s notice t = Moves s from.names to.names notice t
Does (edit.Bit path bit) key s notice t = SetsBit s path.names bit notice t
Does (edit.Remove path) key s notice t = ⊥

-- why it is refused
abbrev pub Refused : UserEdit → Nodes → UserReply → Type 0
Refused (edit.Mkdir path) m answer = MakeRefused m path.names answer
Refused (edit.Write path filling) m answer = WriteRefused m path.names answer
Refused (edit.Move from to) m answer = MoveRefused m from.names to.names answer
Refused (edit.Bit path bit) m answer = BitRefused m path.names answer
Refused (edit.Remove path) m answer = RemoveRefused m path.names answer

-- the key of what is new next, after one that the notice tells of
abbrev pub next_after : Noticed → ℕ → ℕ
next_after (noticed.Made item) n = n + 1
next_after (noticed.Written key content) n = n
next_after (noticed.Moved key place) n = n
next_after (noticed.Removed key) n = n
next_after (noticed.Bit key bit) n = n
