-- The new Local of a listing, with its keys, and the edits that come with it.
use Rattle.std.specs.Prelude.{◌≡◌, ℕ, ◌==◌, Bool, true, false, not, is_some, if◌then◌else◌, List, [], ◌∷◌, ◌++◌, map, find, Option, None, Some, unwrap_or, option_map, option_and_then, IsPermutation}
use Rattle.std.specs.FinMap as map
use Rattle.std.specs.List.Sorted.{IsNonDecreasingBy}
use Rattle.nuc_base.specs.Trees.{Nodes}
use Rattle.nuc_base.specs.declared.node.Counters.{Counters}
use Rattle.nuc_base.specs.declared.node.Kind.{Kind}
use Rattle.nuc_base.specs.declared.node.Kind.TheVariants.{Folder, File}
use Rattle.nuc_base.specs.declared.node.Node.{Node}
use Rattle.nuc_base.specs.declared.node.Ver.{Ver}
use Rattle.nuc_edits.specs.declared.edit.Edit.{Edit}
use Rattle.nuc_edits.specs.declared.edit.EditKind.TheVariants.{Put, Deleted}
use Rattle.nuc_folder.specs.declared.item.Item.{Item}
use Rattle.nuc_hash.specs.Content.{ContentData}
use Rattle.nuc_lookup.specs.Rows.{Numbers, numbers_in}
use Rattle.nuc_lookup.specs.declared.row.Row.{Row}
use Rattle.nuc_observe.specs.Keys.{KeyMap}
use Rattle.nuc_observe.specs.Listing.{kind_of, IsFirstBad}
use Rattle.nuc_observe.specs.Turns.{in_turn, next_after_all}
use Rattle.nuc_observe.specs.Versions.{has_hash, kept_version}
use Rattle.nuc_observe.specs.declared.binding.Binding.{Binding}
use Rattle.nuc_observe.specs.declared.observe_fault.ObserveFault.{ObserveFault}
use Rattle.nuc_observe.specs.declared.observe_fault.ObserveFault.TheVariants as fault
use Rattle.nuc_observe.specs.declared.observed_node.ObservedNode.{ObservedNode}

-- WHOSE KEY IT IS
abbrev pub is_key : ℕ → Option ℕ → Bool
is_key key None = false
is_key key (Some own) = own == key

-- the identity that has the key
abbrev pub id_of : KeyMap → ℕ → Option ℕ
id_of keys key = find (λ x. is_key key (map.get keys x)) (map.keys keys)

-- what a tree has of the key's identity
abbrev pub known_node : KeyMap → Nodes → ℕ → Option Node
known_node keys m key = option_and_then (map.get m) (id_of keys key)

-- each listed key with its identity: a known key keeps it, unknown ones get the next in turn
abbrev pub identity_rows : KeyMap → ℕ → List Item → List Row
identity_rows keys next items = in_turn (λ item. id_of keys item.key.0) (λ x item. record { from = item.key.0; to = x } ∷ []) next items

abbrev pub listed_ids : KeyMap → ℕ → List Item → Numbers
listed_ids keys next items = numbers_in (identity_rows keys next items)

-- the identity of a listed key; the folder itself, which isn't listed, is 0
abbrev pub identity : Numbers → ℕ → ℕ
identity ids key = unwrap_or (map.get ids key) 0

abbrev pub bindings : List Row → List Binding
bindings rows = map (λ row. record { id = record { 0 = row.to }; key = record { 0 = row.from } }) rows

-- WHICH VERSION IT HAS
-- what is there before the scan: the keys, Remote, Local, Synced and the edits
pub record Before : Type 0 where
  pub keys : KeyMap
  pub remote : Nodes
  pub local : Nodes
  pub synced : Nodes
  pub edits : List Edit

abbrev pub own_version_by : Before → ℕ → Option ContentData → Option ℕ
own_version_by b key None = Some 0
own_version_by b key (Some content) =
    option_map (λ v. v.0) (kept_version (has_hash b.edits content.hash) (known_node b.keys b.local key) (known_node b.keys b.synced key) (known_node b.keys b.remote key))

-- a folder has version 0, a file the one that it keeps, if any
abbrev pub own_version : Before → Item → Option ℕ
own_version b item = own_version_by b item.key.0 item.content

-- THE NODES
abbrev pub bit_of : Option ContentData → Bool → Bool
bit_of None bit = false
bit_of (Some content) bit = bit

abbrev pub node_of : Numbers → ℕ → Item → Node
node_of ids ver item = record {
  place = record { parent = record { 0 = identity ids item.parent.0 }; name = item.name };
  kind = kind_of item.content;
  ver = record { 0 = ver };
  bit = bit_of item.content item.bit;
}

abbrev pub observed_node : Numbers → ℕ → Item → ObservedNode
observed_node ids ver item = record { id = record { 0 = identity ids item.key.0 }; node = node_of ids ver item }

abbrev pub observed_nodes : Before → Numbers → ℕ → List Item → List ObservedNode
observed_nodes b ids next items = in_turn (own_version b) (λ ver item. observed_node ids ver item ∷ []) next items

-- THE EDITS
-- the version that a new one replaces
abbrev pub base_of : Option Node → Ver
base_of None = record { 0 = 0 }
base_of (Some n) = n.ver

abbrev pub put_by : Option ℕ → Option ContentData → Ver → ℕ → ℕ → List Edit
put_by (Some own) content base x ver = []
put_by None None base x ver = []
put_by None (Some content) base x ver = record { ver = record { 0 = ver }; id = record { 0 = x }; base = base; what = Put content } ∷ []

-- a file that draws a version is put
abbrev pub put_of : Before → Numbers → ℕ → Item → List Edit
put_of b ids ver item = put_by (own_version b item) item.content (base_of (known_node b.keys b.local item.key.0)) (identity ids item.key.0) ver

abbrev pub puts : Before → Numbers → ℕ → List Item → List Edit
puts b ids next items = in_turn (own_version b) (put_of b ids) next items

abbrev pub gone_version : Kind → Ver → Option Ver
gone_version Folder ver = None
gone_version File ver = Some ver

abbrev pub gone_by : Bool → Option Node → Option Ver
gone_by true n = None
gone_by false None = None
gone_by false (Some n) = gone_version n.kind n.ver

-- x's key is listed
abbrev pub is_listed : KeyMap → Numbers → ℕ → Bool
is_listed keys ids x = is_some (option_and_then (map.get ids) (map.get keys x))

-- the version of a file of the old Local that isn't listed
abbrev pub gone : Before → Numbers → ℕ → Option Ver
gone b ids x = gone_by (is_listed b.keys ids x) (map.get b.local x)

-- only a file that is gone draws a version
abbrev pub own_of_gone : Option Ver → Option ℕ
own_of_gone None = Some 0
own_of_gone (Some base) = None

abbrev pub deletion_of : Option Ver → ℕ → ℕ → List Edit
deletion_of None ver x = []
deletion_of (Some base) ver x = record { ver = record { 0 = ver }; id = record { 0 = x }; base = base; what = Deleted } ∷ []

abbrev pub deletions : Before → Numbers → ℕ → List ℕ → List Edit
deletions b ids next xs = in_turn (λ x. own_of_gone (gone b ids x)) (λ ver x. deletion_of (gone b ids x) ver x) next xs

-- THE COUNTERS
abbrev pub next_id_after : KeyMap → ℕ → List Item → ℕ
next_id_after keys next items = next_after_all (λ item. id_of keys item.key.0) next items

abbrev pub next_ver_after_puts : Before → ℕ → List Item → ℕ
next_ver_after_puts b next items = next_after_all (own_version b) next items

abbrev pub next_ver_after_deletions : Before → Numbers → ℕ → List ℕ → ℕ
next_ver_after_deletions b ids next xs = next_after_all (λ x. own_of_gone (gone b ids x)) next xs

-- THE WHOLE
-- the same elements in rising order
abbrev pub IsInOrderBy : {A : Type 0} → (A → ℕ) → List A → List A → Type 0
IsInOrderBy number xs ys = IsPermutation xs ys × IsNonDecreasingBy number ys

pub record IsObserved (b : Before) (items : List Item) (before : Counters) (nodes : List ObservedNode) (keys : List Binding) (edits : List Edit) (after : Counters) : Type 0 where
  pub nodes_are : IsInOrderBy (λ n. n.id.0) (observed_nodes b (listed_ids b.keys before.next_id items) before.next_ver items) nodes
  pub keys_are : IsInOrderBy (λ k. k.id.0) (bindings (identity_rows b.keys before.next_id items)) keys
  pub edits_are : edits ≡ puts b (listed_ids b.keys before.next_id items) before.next_ver items
      ++ deletions b (listed_ids b.keys before.next_id items) (next_ver_after_puts b before.next_ver items) (map.keys b.local)
  pub next_id_is : after.next_id ≡ next_id_after b.keys before.next_id items
  pub next_ver_is : after.next_ver ≡ next_ver_after_deletions b (listed_ids b.keys before.next_id items) (next_ver_after_puts b before.next_ver items) (map.keys b.local)

-- why there is no new Local
abbrev pub ObserveFaulty : KeyMap → Nodes → List Item → ObserveFault → Type 0
ObserveFaulty keys l items (fault.BadListing number) = IsFirstBad keys l items (Some number)
ObserveFaulty keys l items fault.Memory = Unit {0}
