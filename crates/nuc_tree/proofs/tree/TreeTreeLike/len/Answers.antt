use Rattle.std.proofs.Common.{ap, sym, refl, ◌∙◌}
use Rattle.nuc_tree.proofs.Views.{len_is}
use Rattle.nuc_tree.proofs.tree.TreeTreeLike.len.Goals as goal

pub returns : goal.returns
returns c = c.len.ensures ∙ c.self.inside.entries.ok.0 ∙ sym (len_is _ _ _ refl (ap (λ s. s.nodes) c.self.view_is) c.self.invariant)
