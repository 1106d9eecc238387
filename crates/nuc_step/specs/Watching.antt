-- What one change that a user made in the folder makes of a client.
use Rattle.std.specs.Prelude.{◌≡◌, ◌<◌, ◌≤◌, ◌+◌, ◌++◌, ◌==◌, ℕ, Bool, IsSomeAnd, List, Option, None, Some, cond, option_and_then, option_map, option_to_list, unwrap_or}
use Rattle.std.specs.FinMap.{get, insert, remove}
use Rattle.nuc_base.specs.Kinds.{FitsKind}
use Rattle.nuc_base.specs.Legal.{LegalCut, LegalPut}
use Rattle.nuc_base.specs.Names.{IsName}
use Rattle.nuc_base.specs.Trees.{IsThere, NoChild, Nodes}
use Rattle.nuc_base.specs.declared.node.Counters.{Counters}
use Rattle.nuc_base.specs.declared.node.Kind.{Kind}
use Rattle.nuc_base.specs.declared.node.Kind.TheVariants.{Folder, File}
use Rattle.nuc_base.specs.declared.node.Node.{Node}
use Rattle.nuc_base.specs.declared.node.Ver.{Ver}
use Rattle.nuc_edits.specs.Edits.{IsNext, Recorded}
use Rattle.nuc_edits.specs.declared.edit.Edit.{Edit}
use Rattle.nuc_edits.specs.declared.edit.EditKind.TheVariants.{Put, Deleted}
use Rattle.nuc_folder.specs.declared.item.Item.{Item}
use Rattle.nuc_folder.specs.declared.key_place.KeyPlace.{KeyPlace}
use Rattle.nuc_folder.specs.declared.noticed.Noticed.{Noticed}
use Rattle.nuc_folder.specs.declared.noticed.Noticed.TheVariants as noticed
use Rattle.nuc_hash.specs.Content.{ContentData}
use Rattle.nuc_observe.specs.Keys.{IsUnheld}
use Rattle.nuc_observe.specs.Listing.{IsShort, kind_of}
use Rattle.nuc_observe.specs.Observed.{bit_of, id_of}
use Rattle.nuc_observe.specs.Versions.{has_hash, kept_version}
use Rattle.nuc_observe.specs.declared.item_size.TheConstants.{MOST_BYTES}
use Rattle.nuc_replica.specs.Local.{LocalState}
use Rattle.nuc_step.specs.Client.{ClientState}
use Rattle.nuc_step.specs.Planning.{CanPlan, CountsChange}
use Rattle.nuc_step.specs.declared.answers.WatchReply.{WatchReply}
use Rattle.nuc_step.specs.declared.answers.WatchReply.TheVariants as watch
use Rattle.nuc_step.specs.declared.watched.Turn.{Turn}
use Rattle.nuc_step.specs.declared.watched.Turn.TheVariants as turn
use Rattle.nuc_step.specs.declared.watched.Watched.{Watched}

-- WHO IS MEANT
abbrev pub if_folder : Kind → ℕ → Option ℕ
if_folder Folder x = Some x
if_folder File x = None

abbrev pub folder_by : ℕ × Node → Option ℕ
folder_by k = if_folder k.1.kind k.0

-- who in Local has the key, with the node
abbrev pub known_of : LocalState → ℕ → Option (ℕ × Node)
known_of l key = option_and_then (λ x. option_map (λ n. (x, n)) (get l.tree x)) (id_of l.keys key)

-- the folder of Local that has the key; the folder itself, whose key is 0, is the root
abbrev pub parent_of : LocalState → ℕ → Option ℕ
parent_of l key = cond (key == 0) (Some 0) (option_and_then folder_by (known_of l key))

-- somebody in Local has the key, and this is so of them
abbrev pub IsKnown : LocalState → ℕ → (ℕ → Node → Type 0) → Type 0
IsKnown l key P = IsSomeAnd (known_of l key) (λ k. P k.0 k.1)

-- EDITS
abbrev pub edit_of : ℕ → ℕ → Ver → ContentData → Edit
edit_of ver x base content = record { ver = record { 0 = ver }; id = record { 0 = x }; base = base; what = Put content }

abbrev pub deletion_of : Kind → ℕ → ℕ → Ver → Option Edit
deletion_of Folder ver x base = None
deletion_of File ver x base = Some (record { ver = record { 0 = ver }; id = record { 0 = x }; base = base; what = Deleted })

-- MADE: the next identity comes; a file has the next version
abbrev pub made_version : Option ContentData → ℕ → ℕ
made_version None next = 0
made_version (Some content) next = next

abbrev pub made_node : ℕ → ℕ → Item → Node
made_node next parent item = record {
  place = record { parent = record { 0 = parent }; name = item.name };
  kind = kind_of item.content;
  ver = record { 0 = made_version item.content next };
  bit = bit_of item.content item.bit;
}

abbrev pub made : Counters → ℕ → Item → Watched
made ids parent item = record {
  id = record { 0 = ids.next_id };
  turn = turn.Add item.key (made_node ids.next_ver parent item);
  edit = option_map (edit_of ids.next_ver ids.next_id (record { 0 = 0 })) item.content;
}

-- in the folder that it says
pub record MadeIn (l : LocalState) (ids : Counters) (item : Item) (d : Watched) (parent : ℕ) : Type 0 where
  pub name : IsName item.name
  pub legal : LegalPut l.tree ids.next_id (made_node ids.next_ver parent item)
  pub is : d ≡ made ids parent item

-- whose key it is nobody else's, and it isn't too large
pub record MayCome (l : LocalState) (item : Item) : Type 0 where
  pub own : 0 < item.key.0
  pub new : IsUnheld l.keys item.key.0
  pub short : IsShort item.content

pub record IsMade (l : LocalState) (ids : Counters) (item : Item) (d : Watched) : Type 0 where
  pub may : MayCome l item
  pub inside : IsSomeAnd (parent_of l item.parent.0) (MadeIn l ids item d)

-- WRITTEN: the file has the version that has the content, or else the next one
abbrev pub own_version : List Edit → Nodes → Nodes → ContentData → ℕ → Node → Option ℕ
own_version edits r s content x n = option_map (λ v. v.0) (kept_version (has_hash edits content.hash) (Some n) (get s x) (get r x))

abbrev pub written_edit : Option ℕ → ℕ → ℕ → Ver → ContentData → Option Edit
written_edit None next x base content = Some (edit_of next x base content)
written_edit (Some own) next x base content = None

abbrev pub written : Option ℕ → ℕ → ContentData → ℕ → Node → Watched
written own next content x n = record {
  id = record { 0 = x };
  turn = turn.Put (record n { ver = record { 0 = unwrap_or own next } });
  edit = written_edit own next x n.ver content;
}

pub record IsWritten (r : Nodes) (l : LocalState) (s : Nodes) (edits : List Edit) (next key : ℕ) (content : ContentData) (d : Watched) : Type 0 where
  pub short : content.size ≤ MOST_BYTES
  pub known : IsKnown l key (λ x n. (n.kind ≡ File) × (d ≡ written (own_version edits r s content x n) next content x n))

-- MOVED
abbrev pub moved_node : ℕ → List ℕ → Node → Node
moved_node parent name n = record n { place = record { parent = record { 0 = parent }; name = name } }

abbrev pub moved : ℕ → List ℕ → ℕ → Node → Watched
moved parent name x n = record { id = record { 0 = x }; turn = turn.Put (moved_node parent name n); edit = None }

abbrev pub IsMoved : LocalState → ℕ → KeyPlace → Watched → Type 0
IsMoved l key place d = IsSomeAnd (parent_of l place.parent.0) (λ parent.
    IsKnown l key (λ x n. LegalPut l.tree x (moved_node parent place.name n) × (d ≡ moved parent place.name x n)))

-- REMOVED: nothing stands in it any more
abbrev pub removed : ℕ → ℕ → Node → Watched
removed next x n = record { id = record { 0 = x }; turn = turn.Cut; edit = deletion_of n.kind next x n.ver }

abbrev pub IsRemoved : LocalState → ℕ → ℕ → Watched → Type 0
IsRemoved l next key d = IsKnown l key (λ x n. NoChild l.tree x × (d ≡ removed next x n))

-- THE BIT of a file
abbrev pub with_bit : Bool → ℕ → Node → Watched
with_bit bit x n = record { id = record { 0 = x }; turn = turn.Put (record n { bit = bit }); edit = None }

abbrev pub IsBit : LocalState → ℕ → Bool → Watched → Type 0
IsBit l key bit d = IsKnown l key (λ x n. (n.kind ≡ File) × (d ≡ with_bit bit x n))

-- BY THE CHANGE
abbrev pub LeadsTo : Nodes → LocalState → Nodes → List Edit → Counters → Noticed → Watched → Type 0
LeadsTo r l s edits ids (noticed.Made item) d = IsMade l ids item d
LeadsTo r l s edits ids (noticed.Written key content) d = IsWritten r l s edits ids.next_ver key.0 content d
LeadsTo r l s edits ids (noticed.Moved key place) d = IsMoved l key.0 place d
LeadsTo r l s edits ids (noticed.Removed key) d = IsRemoved l ids.next_ver key.0 d
LeadsTo r l s edits ids (noticed.Bit key bit) d = IsBit l key.0 bit d

-- WHAT COMES OF IT
abbrev pub turned : LocalState → ℕ → Turn → LocalState
turned l x (turn.Add key node) = record { tree = insert l.tree x node; keys = insert l.keys x key.0 }
turned l x (turn.Put node) = record l { tree = insert l.tree x node }
turned l x turn.Cut = record { tree = remove l.tree x; keys = remove l.keys x }

-- the node that it has then
abbrev pub node_after : Turn → Option Node
node_after (turn.Add key node) = Some node
node_after (turn.Put node) = Some node
node_after turn.Cut = None

-- it may come so, stay so, or go
pub record CanAdd (l : LocalState) (x key : ℕ) (node : Node) : Type 0 where
  pub some : 0 < x
  pub absent : get l.tree x ≡ None
  pub fits : FitsKind node
  pub legal : LegalPut l.tree x node
  pub keyed : 0 < key
  pub free : IsUnheld l.keys key

pub record CanPut (l : LocalState) (x : ℕ) (node : Node) : Type 0 where
  pub there : IsThere l.tree x
  pub fits : FitsKind node
  pub legal : LegalPut l.tree x node

abbrev pub CanTurn : LocalState → ℕ → Turn → Type 0
CanTurn l x (turn.Add key node) = CanAdd l x key.0 node
CanTurn l x (turn.Put node) = CanPut l x node
CanTurn l x turn.Cut = LegalCut l.tree x

-- who comes takes the next identity, and an edit the next version
abbrev pub next_id_after : Turn → ℕ → ℕ
next_id_after (turn.Add key node) next = next + 1
next_id_after (turn.Put node) next = next
next_id_after turn.Cut next = next

abbrev pub next_ver_after : Option Edit → ℕ → ℕ
next_ver_after None next = next
next_ver_after (Some edit) next = next + 1

-- what a watched change reads and writes
pub record Watching : Type 0 where
  pub client : ClientState
  pub recorded : Recorded
  pub ids : Counters

pub record IsWatched (d : Watched) (w v : Watching) : Type 0 where
  pub changes : CountsChange w.client.local.tree v.client.local.tree w.client.changes v.client.changes
  pub client : v.client ≡ record w.client { local = turned w.client.local d.id.0 d.turn; changes = v.client.changes }
  pub recorded : v.recorded ≡ record w.recorded { edits = w.recorded.edits ++ option_to_list d.edit }
  pub ids : v.ids ≡ record { next_id = next_id_after d.turn w.ids.next_id; next_ver = next_ver_after d.edit w.ids.next_ver }

-- what the client's trees, the edits and the counters make of the change
abbrev pub Leads : Watching → Noticed → Watched → Type 0
Leads w change d = LeadsTo w.client.remote.tree w.client.local w.client.synced w.recorded.edits w.ids change d

-- it takes place exactly where it leads to something, and else the folder is to be scanned again
abbrev pub WatchAnswers : Watching → Noticed → WatchReply → Watching → Type 0
WatchAnswers w change (watch.Changed x) v = (d : Watched) × Leads w change d × (x ≡ d.id) × IsWatched d w v
WatchAnswers w change watch.Rescan v = ((d : Watched) → ¬ (Leads w change d)) × (v ≡ w)

-- the trees fit together and each identity is below the next, and the next version is above those of all edits
pub record CanWatch (c : ClientState) (e : Recorded) (ids : Counters) : Type 0 where
  pub fit : CanPlan c ids.next_id
  pub some : 0 < ids.next_id
  pub next : IsNext ids.next_ver e.edits
