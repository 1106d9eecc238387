use Rattle.nuc_safety.proofs.TestKinds.{kind_after_put, kind_of_empty}
use Rattle.nuc_safety.proofs.tests.files.Goals as goal

pub loop-i-init : goal.loop-i-init
loop-i-init c = (c.new-tree.ensures.tree, kind_of_empty _ _ c.new-tree.ensures.empty)

pub loop-i-preserved : goal.loop-i-preserved
loop-i-preserved c = (c.put.ensures.tree, kind_after_put _ _ _ _ _ c.in_ok-put.ensures.ok.1 c.in_ok-file.ensures.1 c.loop-i.invariant.1)
