use Rattle.std.proofs.Common.{◌≡◌, take}
use Rattle.nuc_base.specs.Trees.{WellFormed}
use Rattle.nuc_observe.specs.Made.{nodes_in}
use Rattle.nuc_observe.proofs.listed_tree.tree_of.Given as goal

abbrev pub invariant-loop-next : goal.invariant-loop-next
invariant-loop-next g l = record {
  nodes : g.T.TreeLike.nodes l.tree ≡ nodes_in (take l.next-index l.nodes);
  form : WellFormed (g.T.TreeLike.nodes l.tree);
}
