-- What a scan gives is as Local always is.
use Rattle.std.proofs.Common.{◌≡◌, ℕ, false, true, List, Option, None, Some}
use Rattle.std.specs.Prelude.{is_some}
use Rattle.std.specs.FinMap.{get}
use Rattle.nuc_base.specs.declared.node.Node.{Node}
use Rattle.nuc_observe.specs.Keys.{key_map}
use Rattle.nuc_observe.specs.Made.{MakeLocal, nodes_in}
use Rattle.nuc_observe.specs.declared.binding.Binding.{Binding}
use Rattle.nuc_observe.specs.declared.observed_node.ObservedNode.{ObservedNode}
use Rattle.nuc_replica.specs.Local.{HasKey, IsLocal}

has_key : (n : Option Node) (k : Option ℕ) → is_some n ≡ is_some k → HasKey n k
has_key None None both = tt
has_key None (Some k) both = let e : false ≡ true = both in cc
has_key (Some n) None both = let e : true ≡ false = both in cc
has_key (Some n) (Some k) both = tt

pub scanned_local : (nodes : List ObservedNode) (given : List Binding) → MakeLocal nodes given → IsLocal (record { tree = nodes_in nodes; keys = key_map given })
scanned_local nodes given made = record {
  form = made.form;
  keys = made.keys;
  follow = λ x. has_key (get (nodes_in nodes) x) (get (key_map given) x) (made.follow x);
}
