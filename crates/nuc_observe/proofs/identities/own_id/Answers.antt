use Rattle.nuc_observe.proofs.Whose.{told_some, told_none}
use Rattle.nuc_observe.proofs.identities.own_id.Goals as goal

pub returns-in-Some : goal.returns-in-Some
returns-in-Some c = told_some _ _ _ c.in-Some.ensures

pub returns-in-None : goal.returns-in-None
returns-in-None c = told_none _ _ c.in-None.ensures
