use Rattle.nuc_base.specs.Trees.{WellFormed}
use Rattle.nuc_replica.specs.Local.{HaveKeys}
use Rattle.nuc_replica.proofs.exchange_tests.tree_and_keys.Given as goal

abbrev pub invariant-loop-id : goal.invariant-loop-id
invariant-loop-id g l = record {
  form : WellFormed l.tree.nodes;
  keys : HaveKeys l.tree.nodes l.keys.now;
}
