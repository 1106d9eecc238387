use Rattle.nuc_replica.proofs.Trials.{have_keys_more, none_have_keys}
use Rattle.nuc_replica.proofs.exchange_tests.tree_and_keys.Goals as goal

pub loop-id-init : goal.loop-id-init
loop-id-init g c = record {
  form = c.new-tree.ensures.tree;
  keys = none_have_keys c.new-tree.result.nodes c.new-keys.result.now c.new-tree.ensures.empty c.new-keys.ensures.now;
}

pub loop-id-preserved : goal.loop-id-preserved
loop-id-preserved g c = record {
  form = c.put.ensures.tree;
  keys = have_keys_more c.loop-id.tree.nodes c.put.new.self.nodes c.loop-id.keys.now c.put-in-loop-id.new.self.now _ _ _ c.in-Ok.ensures.ok.1 c.in-Ok-put.ensures.now c.loop-id.invariant.keys;
}
