use Rattle.std.proofs.Common.{◌≡◌, take}
use Rattle.nuc_observe.specs.Known.{before_of}
use Rattle.nuc_observe.specs.Observed.{observed_nodes, puts, next_ver_after_puts}
use Rattle.nuc_observe.proofs.gather.gather.Given as goal

abbrev pub invariant-loop-item : goal.invariant-loop-item
invariant-loop-item g l = record {
  nodes : l.nodes.items ≡ observed_nodes (before_of g.T.TreeLike.nodes l.known) l.by_key.numbers l.fn.next_ver (take l.item-index l.items);
  edits : l.edits.items ≡ puts (before_of g.T.TreeLike.nodes l.known) l.by_key.numbers l.fn.next_ver (take l.item-index l.items);
  next : l.next ≡ next_ver_after_puts (before_of g.T.TreeLike.nodes l.known) l.fn.next_ver (take l.item-index l.items);
}
