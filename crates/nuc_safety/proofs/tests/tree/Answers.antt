use Rattle.nuc_safety.proofs.TestKinds.{kind_after_put, kind_of_empty}
use Rattle.nuc_safety.proofs.tests.tree.Goals as goal

pub loop-id-init : goal.loop-id-init
loop-id-init g c = (c.new-tree.ensures.tree, kind_of_empty _ _ c.new-tree.ensures.empty)

pub loop-id-preserved : goal.loop-id-preserved
loop-id-preserved g c = (c.put.ensures.tree, kind_after_put _ _ _ _ _ c.in_ok-put.ensures.ok.1 c.in_ok-node.ensures.1 c.loop-id.invariant.1)
