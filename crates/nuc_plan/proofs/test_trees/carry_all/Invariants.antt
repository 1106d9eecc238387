use Rattle.nuc_base.specs.Trees.{WellFormed}
use Rattle.nuc_plan.proofs.test_trees.carry_all.Given as goal

abbrev pub invariant-loop-i : goal.invariant-loop-i
invariant-loop-i g l = record {
  remote : WellFormed l.trees.remote.nodes;
  local : WellFormed l.trees.local.nodes;
  synced : WellFormed l.trees.synced.nodes;
}
