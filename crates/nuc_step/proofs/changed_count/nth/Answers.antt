use Rattle.std.proofs.Common.{sym}
use Rattle.nuc_observe.proofs.Distinct.{nth_there}
use Rattle.nuc_step.proofs.changed_count.nth.Goals as goal

pub unreachable-requires : goal.unreachable-requires
unreachable-requires g c = nth_there _ _ c.requires (sym c.in-None.ensures)
