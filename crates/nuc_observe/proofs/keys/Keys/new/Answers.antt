use Rattle.nuc_observe.proofs.Undoing.{none_made}
use Rattle.nuc_observe.proofs.keys.Keys.new.Goals as goal

pub invariant_of-result : goal.invariant_of-result
invariant_of-result c = none_made c.new.result c.new-2.result c.new.ensures.now c.new.ensures.past c.new-2.ensures
