use Rattle.std.proofs.Common.{ap, ◌∙◌}
use Rattle.std.specs.FinMap.{get}
use Rattle.nuc_base.proofs.Maps.{get_cut_other}
use Rattle.nuc_replica.proofs.apply.apply_laid.Goals as goal

pub returns-in-Some-clause-laid : goal.returns-in-Some-clause-laid
returns-in-Some-clause-laid g c i apart = ap (λ m. get m i) c.put_laid.ensures.laid ∙ get_cut_other c.args.tree.now.laid c.args.number i apart
