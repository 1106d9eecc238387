-- How a client answers a listing, and what a scan makes of it.
use Rattle.std.specs.Prelude.{◌≡◌, ◌≢◌, ◌<◌, ◌≤◌, ◌+◌, ◌++◌, [], ◌∷◌, ℕ, zero, suc, Bool, IsSomeAnd, List, None, Some, Option, filter, length, not, is_none}
use Rattle.std.specs.FinMap.{get, keys}
use Rattle.nuc_base.specs.Trees.{Nodes}
use Rattle.nuc_base.specs.declared.node.Counters.{Counters}
use Rattle.nuc_class.specs.Equal.{value_eq}
use Rattle.nuc_edits.specs.declared.edit.Edit.{Edit}
use Rattle.nuc_folder.specs.declared.item.Item.{Item}
use Rattle.nuc_folder.specs.declared.listed.TheConstants.{MOST_ITEMS}
use Rattle.nuc_observe.specs.Keys.{key_map}
use Rattle.nuc_observe.specs.Listing.{IsFirstBad, IsGoodListing}
use Rattle.nuc_observe.specs.Made.{ComeInTurn, MakeLocal, nodes_in}
use Rattle.nuc_observe.specs.Observed.{Before, IsObserved, listed_ids, observed_nodes}
use Rattle.nuc_observe.specs.declared.binding.Binding.{Binding}
use Rattle.nuc_observe.specs.declared.observed_node.ObservedNode.{ObservedNode}
use Rattle.nuc_observe.specs.declared.scanned.Observed.{Observed}
use Rattle.nuc_step.specs.Client.{ClientStates}
use Rattle.nuc_step.specs.Held.{HeldData, HeldState, holding, let_go}
use Rattle.nuc_step.specs.Watching.{Watching}
use Rattle.nuc_step.specs.declared.answers.ListReply.{ListReply}
use Rattle.nuc_step.specs.declared.answers.ListReply.TheVariants as list
use Rattle.nuc_step.specs.declared.answers.Scanned.{Scanned}
use Rattle.nuc_step.specs.declared.answers.Scanned.TheVariants as scan
use Rattle.nuc_step.specs.declared.reading.Read.{Read}
use Rattle.nuc_step.specs.declared.reading.Read.TheVariants as read

-- too long with more items than are allowed, and their number; else it is held, with the count of now
abbrev pub ListAnswers : ClientStates → List Item → ListReply → ClientStates → Type 0
ListAnswers c items (list.Held changes) d =
    (length items ≤ MOST_ITEMS) × (changes ≡ c.now.changes) × (d ≡ record c { listing = holding c.now.changes items c.listing })
ListAnswers c items (list.TooLong n) d = (MOST_ITEMS < n) × (n ≡ length items) × (d ≡ c)

-- WHAT IS READ of the listing that is held
abbrev pub before_of : Watching → Before
before_of w = record {
  keys = w.client.local.keys;
  remote = w.client.remote.tree;
  local = w.client.local.tree;
  synced = w.client.synced;
  edits = w.recorded.edits;
}

-- all of it is good, and gives this
pub record Gives (b : Before) (ids : Counters) (items : List Item) (all : Observed) : Type 0 where
  pub good : IsGoodListing b.keys b.local items
  pub observed : IsObserved b items ids all.nodes.items all.keys.items all.edits.items all.ids
  pub listed : all.listed.items ≡ observed_nodes b (listed_ids b.keys ids.next_id items) ids.next_ver items

-- either all of it is good, or an item is the first that is bad
abbrev pub ReadsItems : Before → Counters → List Item → Read → Type 0
ReadsItems b ids items (read.Good all) = Gives b ids items all
ReadsItems b ids items (read.Bad number) = IsFirstBad b.keys b.local items (Some number)
ReadsItems b ids items _ = ⊥

-- there is none, or Local has changed since it was made, or else it is read
abbrev pub Reads : Option HeldData → ℕ → Before → Counters → Read → Type 0
Reads held changes b ids read.Nothing = held ≡ None
Reads held changes b ids read.Stale = IsSomeAnd held (λ h. h.changes ≢ changes)
Reads held changes b ids (read.Bad number) = IsSomeAnd held (λ h. (h.changes ≡ changes) × IsFirstBad b.keys b.local h.items (Some number))
Reads held changes b ids (read.Good all) = IsSomeAnd held (λ h. (h.changes ≡ changes) × Gives b ids h.items all)

-- WHAT CHANGES
-- x has another value, or none any more
abbrev pub is_other : Nodes → Nodes → ℕ → Bool
is_other m k x = not (value_eq (get m x) (get k x))

abbrev pub is_absent : Nodes → ℕ → Bool
is_absent m x = is_none (get m x)

-- how many identities of m have another value in k, and how many of k are new
abbrev pub changed_count : Nodes → Nodes → ℕ
changed_count m k = length (filter (is_other m k) (keys m)) + length (filter (is_absent m) (keys k))

-- a scan that changes nothing isn't counted
abbrev pub changes_after : ℕ → ℕ → ℕ
changes_after zero changes = changes
changes_after (suc k) changes = changes + 1

-- each edit has the next version in turn
abbrev pub VersionsFrom : ℕ → List Edit → Type 0
VersionsFrom next [] = Unit {0}
VersionsFrom next (e ∷ es) = (e.ver.0 ≡ next) × VersionsFrom (next + 1) es

-- what is known of it, so that it may come in place of Local
pub record CanMake (all : Observed) : Type 0 where
  pub turn : ComeInTurn all.listed.items
  pub makes : MakeLocal all.nodes.items all.keys.items
  pub same : nodes_in all.nodes.items ≡ nodes_in all.listed.items

pub record CanTake (next : ℕ) (all : Observed) : Type 0 where
  pub make : CanMake all
  pub versions : VersionsFrom next all.edits.items
  pub next_ver : all.ids.next_ver ≡ next + length all.edits.items

-- it comes in place of Local, with its edits and counters
pub record Takes (nodes : List ObservedNode) (bindings : List Binding) (edits : List Edit) (w : Watching) (k : ℕ) (v : Watching) : Type 0 where
  pub count : k ≡ changed_count w.client.local.tree (nodes_in nodes)
  pub client : v.client ≡ record w.client {
    local = record { tree = nodes_in nodes; keys = key_map bindings };
    changes = changes_after k w.client.changes;
  }
  pub recorded : v.recorded ≡ record w.recorded { edits = w.recorded.edits ++ edits }

-- A SCAN of these items
pub record IsScanned (w : Watching) (k : ℕ) (v : Watching) (items : List Item) : Type 0 where
  pub good : IsGoodListing w.client.local.keys w.client.local.tree items
  pub nodes : List ObservedNode
  pub bindings : List Binding
  pub edits : List Edit
  pub observed : IsObserved (before_of w) items w.ids nodes bindings edits v.ids
  pub takes : Takes nodes bindings edits w k v

-- by the listing that is held: none, one that is stale, one with a first bad item, or a good one. Afterwards none is
abbrev pub ScanAnswers : HeldState → Watching → Scanned → HeldState → Watching → Type 0
ScanAnswers h w scan.NoListing g v = (h.now ≡ None) × (g ≡ let_go h) × (v ≡ w)
ScanAnswers h w (scan.Stale changes) g v =
    IsSomeAnd h.now (λ held. held.changes ≢ w.client.changes) × (changes ≡ w.client.changes) × (g ≡ let_go h) × (v ≡ w)
ScanAnswers h w (scan.Bad number) g v =
    IsSomeAnd h.now (λ held. (held.changes ≡ w.client.changes) × IsFirstBad w.client.local.keys w.client.local.tree held.items (Some number))
    × (g ≡ let_go h) × (v ≡ w)
ScanAnswers h w (scan.Changed k) g v = IsSomeAnd h.now (λ held. (held.changes ≡ w.client.changes) × IsScanned w k v held.items) × (g ≡ let_go h)
