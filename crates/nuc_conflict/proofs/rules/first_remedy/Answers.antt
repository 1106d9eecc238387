use Rattle.std.proofs.Common.{refl}
use Rattle.nuc_conflict.specs.Remedies.IsRemedy.{split}
use Rattle.nuc_conflict.proofs.rules.first_remedy.Goals as goal

pub returns-in-Some : goal.returns-in-Some
returns-in-Some g c = split c.in-Some.id c.in-Some.ensures refl
