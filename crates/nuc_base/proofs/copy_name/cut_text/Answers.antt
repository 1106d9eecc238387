use Rattle.nuc_base.proofs.Candidates.{cut_whole}
use Rattle.nuc_base.proofs.copy_name.cut_text.Goals as goal

pub returns-in-Ok-clause-value : goal.returns-in-Ok-clause-value
returns-in-Ok-clause-value c = cut_whole c.args.room c.min.result c.args.text.now c.min.ensures c.in-Ok.ensures.cases.1
