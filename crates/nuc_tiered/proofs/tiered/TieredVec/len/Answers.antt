use Rattle.std.proofs.Common.{length, sym, ap, ◌∙◌}
use Rattle.nuc_tiered.proofs.Cells.{items_length}
use Rattle.nuc_tiered.proofs.tiered.TieredVec.len.Goals as goal

pub returns : goal.returns
returns c = sym (items_length _ _ _ c.self.invariant) ∙ ap (λ s. length s.items) c.self.view_is
