use Rattle.nuc_base.specs.Trees.{WellFormed}
use Rattle.nuc_plan.proofs.tests.come_together_so.Given as goal

abbrev pub invariant-loop-what : goal.invariant-loop-what
invariant-loop-what g l = record {
  remote : WellFormed l.trees.remote.nodes;
  local : WellFormed l.trees.local.nodes;
  synced : WellFormed l.trees.synced.nodes;
}
