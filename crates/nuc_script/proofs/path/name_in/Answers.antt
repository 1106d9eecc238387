use Rattle.std.proofs.Common.{refl}
use Rattle.nuc_script.proofs.Names.{name_told}
use Rattle.nuc_script.proofs.path.name_in.Goals as goal

pub returns-in-Ok : goal.returns-in-Ok
returns-in-Ok c = let told = name_told _ c.in-Ok.ensures.1 in rw told (rw c.in-Ok.ensures.0 refl)
