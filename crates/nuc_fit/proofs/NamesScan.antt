-- A scan brings a client names alone, and gives no more identities than there are items.
use Rattle.std.specs.Prelude.{All, IsSomeAnd}
use Rattle.std.proofs.Common.{◌≡◌, ◌≤◌, ◌+◌, ℕ, List, [], ◌∷◌, length, Option, Some, None, sym, subst, arith}
use Rattle.std.proofs.lemmas.List.Sorted.{All-permutation}
use Rattle.nuc_base.specs.Names.{IsName}
use Rattle.nuc_base.specs.Trees.{Nodes}
use Rattle.nuc_folder.specs.declared.item.Item.{Item}
use Rattle.nuc_folder.specs.declared.listed.TheConstants.{MOST_ITEMS}
use Rattle.nuc_lookup.specs.Rows.{Numbers}
use Rattle.nuc_observe.specs.Keys.{KeyMap}
use Rattle.nuc_observe.specs.Listing.{IsGoodListing}
use Rattle.nuc_observe.specs.Listing.IsGoodListing.{nothing, more}
use Rattle.nuc_observe.specs.Made.{nodes_in}
use Rattle.nuc_observe.specs.Observed.{Before, id_of, listed_ids, observed_nodes, own_version}
use Rattle.nuc_observe.specs.Turns.{next_after, next_after_all}
use Rattle.nuc_observe.specs.declared.observed_node.ObservedNode.{ObservedNode}
use Rattle.nuc_step.specs.Held.{HeldData, HeldState}
use Rattle.nuc_step.specs.Scanning.{IsScanned, ScanAnswers, before_of}
use Rattle.nuc_step.specs.Watching.{Watching}
use Rattle.nuc_step.specs.declared.answers.Scanned.{Scanned}
use Rattle.nuc_step.specs.declared.answers.Scanned.TheVariants as scan
use Rattle.nuc_fit.proofs.NamesForm.{IsListedFew, Named, NamedClient}
use Rattle.nuc_fit.proofs.NamesLists.{all_append, all_first, all_front, all_none, all_rest}
use Rattle.nuc_fit.proofs.NamesTrees.{empty_named, put_named}

-- so many identities are given at most
pub record ObservesNamed (w v : Watching) (most : ℕ) : Type 0 where
  pub client : NamedClient v.client
  pub next : v.ids.next_id ≤ w.ids.next_id + most

pub stays : (w v : Watching) (most : ℕ) → v ≡ w → NamedClient w.client → ObservesNamed w v most
stays w v most same named = subst (λ (u : Watching). ObservesNamed w u most) (sym same) (record { client = named; next = omega arith })

-- A SCAN. Each item of a good listing has a name
abbrev NamedItem : Item → Type 0
NamedItem item = IsName item.name

good_named : (keys : KeyMap) (l : Nodes) (items : List Item) → IsGoodListing keys l items → All NamedItem items
good_named keys l _ nothing = all_none NamedItem
good_named keys l _ (more earlier item before is) =
    all_append NamedItem earlier (item ∷ []) (good_named keys l earlier before) (all_front NamedItem item [] is.name (all_none NamedItem))

abbrev NamedNode : ObservedNode → Type 0
NamedNode o = IsName o.node.place.name

items_named : (b : Before) (ids : Numbers) (next : ℕ) (items : List Item) → All NamedItem items → All NamedNode (observed_nodes b ids next items)
items_named b ids next [] all = all_none NamedNode
items_named b ids next (item ∷ items) all =
    all_front NamedNode _ _ (all_first NamedItem item items all) (items_named b ids (next_after (own_version b item) next) items (all_rest NamedItem item items all))

nodes_named : (nodes : List ObservedNode) → All NamedNode nodes → Named (nodes_in nodes)
nodes_named [] all = empty_named
nodes_named (o ∷ os) all = put_named (nodes_in os) o.id.0 o.node (all_first NamedNode o os all) (nodes_named os (all_rest NamedNode o os all))

-- and there are no more identities than items
one_low : (own : Option ℕ) (next : ℕ) → next_after own next ≤ next + 1
one_low None next = omega arith
one_low (Some x) next = omega arith

turns_low : (own : Item → Option ℕ) (next : ℕ) (items : List Item) → next_after_all own next items ≤ next + length items
turns_low own next [] = omega arith
turns_low own next (item ∷ items) =
    let first = one_low (own item) next in
    let later = turns_low own (next_after (own item) next) items in
    omega (arith, first, later)

scanned_named : (w v : Watching) (k most : ℕ) (items : List Item) → length items ≤ most → NamedClient w.client → IsScanned w k v items → ObservesNamed w v most
scanned_named w v k most items few named is =
    let b = before_of w in
    let all : All NamedNode (observed_nodes b (listed_ids b.keys w.ids.next_id items) w.ids.next_ver items) =
    items_named b (listed_ids b.keys w.ids.next_id items) w.ids.next_ver items (good_named w.client.local.keys w.client.local.tree items is.good) in
    let nodes : All NamedNode is.nodes = All-permutation NamedNode _ is.nodes is.observed.nodes_are.0 all in
    record {
      client = subst NamedClient (sym is.takes.client) (record {
        remote = named.remote;
        local = nodes_named is.nodes nodes;
        synced = named.synced;
        flights = named.flights;
      });
      next =
          let low = turns_low (λ item. id_of b.keys item.key.0) w.ids.next_id items in
          let next = is.observed.next_id_is in
          omega (arith, low, next, few);
    }

by_held : (w v : Watching) (k : ℕ) (held : Option HeldData) → IsListedFew held → NamedClient w.client
    → IsSomeAnd held (λ h. (h.changes ≡ w.client.changes) × IsScanned w k v h.items) → ObservesNamed w v MOST_ITEMS
by_held w v k None few named is = absurd is
by_held w v k (Some h) few named is = scanned_named w v k MOST_ITEMS h.items few named is.1

pub scan_named : (h g : HeldState) (w v : Watching) (answer : Scanned) → IsListedFew h.now → NamedClient w.client → ScanAnswers h w answer g v → ObservesNamed w v MOST_ITEMS
scan_named h g w v scan.NoListing few named (none, dropped, same) = stays w v MOST_ITEMS same named
scan_named h g w v (scan.Stale changes) few named (stale, count, dropped, same) = stays w v MOST_ITEMS same named
scan_named h g w v (scan.Bad number) few named (bad, dropped, same) = stays w v MOST_ITEMS same named
scan_named h g w v (scan.Changed k) few named (is, dropped) = by_held w v k h.now few named is
