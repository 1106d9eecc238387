use Rattle.nuc_observe.proofs.Distinct.{rows_apart}
use Rattle.nuc_observe.proofs.observe.observed_good.Goals as goal

pub identities_of-requires : goal.identities_of-requires
identities_of-requires g c = rows_apart _ _ _ _ c.requires
