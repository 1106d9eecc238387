-- The tree and the keys that a scan gives.
use Rattle.std.specs.Prelude.{◌≡◌, ◌≢◌, ◌<◌, ℕ, All, AllPairs, List, length, map, take, slice_index_or, None, Some, is_some}
use Rattle.std.specs.FinMap.{from_entries, get}
use Rattle.nuc_base.specs.Kinds.{FitsKind}
use Rattle.nuc_base.specs.Legal.{LegalPut}
use Rattle.nuc_base.specs.Trees.{Nodes, OneKind, WellFormed}
use Rattle.nuc_base.specs.declared.node.Counters.{Counters}
use Rattle.nuc_observe.specs.Keys.{AreBindings, AreKeys, KeyMap, key_map}
use Rattle.nuc_observe.specs.Observed.{Before}
use Rattle.nuc_observe.specs.declared.binding.Binding.{Binding}
use Rattle.nuc_observe.specs.declared.observed_node.ObservedNode.{ObservedNode}

-- whoever has a key was drawn before the next identity
abbrev pub AreDrawn : KeyMap → ℕ → Type 0
AreDrawn keys next = (x k : ℕ) → get keys x ≡ Some k → x < next

-- what there is before a scan is sound: an identity has one kind in Local and Remote, and all keys' were drawn
pub record AreSound (b : Before) (ids : Counters) : Type 0 where
  pub remote : WellFormed b.remote
  pub local : WellFormed b.local
  pub kinds : OneKind b.remote b.local
  pub keys : AreKeys b.keys
  pub drawn : AreDrawn b.keys ids.next_id
  pub next_id : 0 < ids.next_id
  pub next_ver : 0 < ids.next_ver

-- the tree of these nodes
abbrev pub nodes_in : List ObservedNode → Nodes
nodes_in nodes = from_entries (map (λ n. (n.id.0, n.node)) nodes)

-- an identity that is absent may get this node
pub record IsNext (m : Nodes) (n : ObservedNode) : Type 0 where
  pub above : 0 < n.id.0
  pub absent : get m n.id.0 ≡ None
  pub legal : LegalPut m n.id.0 n.node
  pub fits : FitsKind n.node

-- each may be put where those before it stand
abbrev pub ComeInTurn : List ObservedNode → Type 0
ComeInTurn nodes = (i : ℕ) (n : ObservedNode) → i < length nodes → IsNext (nodes_in (take i nodes)) (slice_index_or nodes i n)

-- a tree and keys of just the same identities
pub record MakeLocal (nodes : List ObservedNode) (given : List Binding) : Type 0 where
  pub form : WellFormed (nodes_in nodes)
  pub bindings : AreBindings given
  pub keys : AreKeys (key_map given)
  pub follow : (x : ℕ) → is_some (get (nodes_in nodes) x) ≡ is_some (get (key_map given) x)
  pub above : All (λ n. 0 < n.id.0) nodes
  pub apart : AllPairs (λ n k. n.id.0 ≢ k.id.0) nodes
