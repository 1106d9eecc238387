use Rattle.nuc_base.specs.Trees.{WellFormed}
use Rattle.nuc_plan.proofs.tests.new_files_go_up_32_at_a_time.Given as goal

abbrev pub invariant-loop-first : goal.invariant-loop-first
invariant-loop-first g l = record {
  remote : WellFormed l.trees.remote.nodes;
  local : WellFormed l.trees.local.nodes;
  synced : WellFormed l.trees.synced.nodes;
}
