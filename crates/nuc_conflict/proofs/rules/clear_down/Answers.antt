use Rattle.std.proofs.Common.{ap}
use Rattle.nuc_conflict.specs.Remedies.ClearsDown.{in_synced, in_local}
use Rattle.nuc_conflict.specs.declared.remedy.Remedy.TheVariants.{Evict}
use Rattle.nuc_conflict.proofs.rules.clear_down.Goals as goal

pub returns-in-Some : goal.returns-in-Some
returns-in-Some g c = in_synced c.in-Some.other c.in-Some.ensures (ap (λ p. Evict c.in-Some.other p) c.in_ok-copy.ensures)

pub returns-in-Some-in_the_way : goal.returns-in-Some-in_the_way
returns-in-Some-in_the_way g c = in_local c.in-Some-in_the_way.other c.in_default.ensures c.in-Some-in_the_way.ensures c.in_ok-make_room.ensures
