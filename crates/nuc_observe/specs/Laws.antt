-- The laws of observation.
use Rattle.std.specs.Prelude.{◌≡◌, ◌≢◌, ℕ, AllPairs, List, map}
use Rattle.nuc_base.specs.Trees.{Nodes}
use Rattle.nuc_base.specs.declared.node.Counters.{Counters}
use Rattle.nuc_edits.specs.declared.edit.Edit.{Edit}
use Rattle.nuc_folder.specs.declared.item.Item.{Item}
use Rattle.nuc_observe.specs.Keys.{KeyMap}
use Rattle.nuc_observe.specs.Listing.{IsGoodListing}
use Rattle.nuc_observe.specs.Made.{AreDrawn, AreSound, ComeInTurn, MakeLocal, nodes_in}
use Rattle.nuc_observe.specs.Observed.{Before, IsObserved, bindings, identity_rows, listed_ids, observed_nodes}
use Rattle.nuc_observe.specs.declared.binding.Binding.{Binding}
use Rattle.nuc_observe.specs.declared.observed_node.ObservedNode.{ObservedNode}

-- no two items of a good listing have one identity
abbrev pub IdentitiesDiffer : Type 0
IdentitiesDiffer = (keys : KeyMap) (l : Nodes) (next : ℕ) (items : List Item) → AreDrawn keys next → IsGoodListing keys l items
    → AllPairs (λ r s. r.to ≢ s.to) (identity_rows keys next items)

-- the nodes of a good listing stand at just the identities that have a key
abbrev pub NodesHaveKeys : Type 0
NodesHaveKeys = (b : Before) (l : Nodes) (next ver : ℕ) (items : List Item) → IsGoodListing b.keys l items
    → map (λ n. n.id.0) (observed_nodes b (listed_ids b.keys next items) ver items) ≡ map (λ k. k.id.0) (bindings (identity_rows b.keys next items))

-- the nodes of a good listing can be put one after the other, in its order
abbrev pub NodesComeInTurn : Type 0
NodesComeInTurn = (b : Before) (ids : Counters) (items : List Item) → AreSound b ids → IsGoodListing b.keys b.local items
    → ComeInTurn (observed_nodes b (listed_ids b.keys ids.next_id items) ids.next_ver items)

-- what a scan gives is a tree and its keys; in order of identity it is the same tree as in the order of the listing
abbrev pub ScanMakesLocal : Type 0
ScanMakesLocal = (b : Before) (items : List Item) (before : Counters) (nodes : List ObservedNode) (keys : List Binding) (edits : List Edit) (after : Counters)
    → AreSound b before → IsGoodListing b.keys b.local items → IsObserved b items before nodes keys edits after
    → MakeLocal nodes keys × (nodes_in nodes ≡ nodes_in (observed_nodes b (listed_ids b.keys before.next_id items) before.next_ver items))
