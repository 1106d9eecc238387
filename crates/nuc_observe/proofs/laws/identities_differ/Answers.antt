use Rattle.nuc_observe.proofs.Fresh.{ids_differ}
use Rattle.nuc_observe.proofs.laws.identities_differ.Goals as goal

pub returns : goal.returns
returns c = ids_differ
