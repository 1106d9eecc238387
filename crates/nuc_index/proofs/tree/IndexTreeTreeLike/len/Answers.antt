use Rattle.std.proofs.Common.{ap, sym, ◌∙◌}
use Rattle.std.specs.FinMap as map
use Rattle.nuc_index.proofs.Entries.{len_is}
use Rattle.nuc_index.proofs.Slots.{length_in}
use Rattle.nuc_index.proofs.tree.IndexTreeTreeLike.len.Goals as goal

pub returns : goal.returns
returns c = c.len.ensures ∙ sym (length_in c.self.inside.entries _) ∙ sym (len_is _ c.self.invariant.rise) ∙ ap (λ s. map.len s.nodes) c.self.view_is
