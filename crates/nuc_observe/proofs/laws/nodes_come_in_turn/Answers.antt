use Rattle.nuc_observe.proofs.Made.{all_come}
use Rattle.nuc_observe.proofs.laws.nodes_come_in_turn.Goals as goal

pub returns : goal.returns
returns c = all_come
