use Rattle.nuc_conflict.proofs.MendFacts.{mends_have_facts}
use Rattle.nuc_conflict.proofs.laws.mends_are_legal.Goals as goal

pub returns : goal.returns
returns c = mends_have_facts
