use Rattle.std.proofs.Common.{ap}
use Rattle.nuc_tree.proofs.Views.{parent_of_some}
use Rattle.nuc_tree.proofs.tree.TreeTreeLike.has_child.Goals as goal

pub returns : goal.returns
returns c = parent_of_some _ _ _ c.deref.ensures.value (ap (λ s. s.nodes) c.self.view_is) c.self.invariant _ _ c.has_parent.ensures
