use Rattle.std.proofs.Common.{◌≡◌, take}
use Rattle.nuc_base.specs.Trees.{WellFormed}
use Rattle.nuc_observe.specs.Made.{ComeInTurn, nodes_in}
use Rattle.nuc_observe.proofs.observe_trial.see_that_they_come_in_turn.Given as goal

abbrev pub invariant-loop-next : goal.invariant-loop-next
invariant-loop-next g l = record {
  nodes : l.tree.nodes ≡ nodes_in (take l.next-index l.nodes);
  form : WellFormed l.tree.nodes;
  come : ComeInTurn (take l.next-index l.nodes);
}
