use Rattle.nuc_index.proofs.Children.{picked_at, picked_gap}
use Rattle.nuc_index.proofs.sibling.from_parent.Goals as goal

pub returns-in-Ok-clause-rows : goal.returns-in-Ok-clause-rows
returns-in-Ok-clause-rows c i = picked_at c.args.parent.0 _ c.in-Ok.start i c.requires.rise c.in-Ok.ensures.place

pub returns-in-Err-clause-rows : goal.returns-in-Err-clause-rows
returns-in-Err-clause-rows c i = picked_gap c.args.parent.0 _ c.in-Err.start i c.requires.rise c.in-Err.ensures.place
