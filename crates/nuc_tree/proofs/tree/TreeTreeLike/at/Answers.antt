use Rattle.std.proofs.Common.{ap}
use Rattle.nuc_tree.proofs.Views.{standing}
use Rattle.nuc_tree.proofs.tree.TreeTreeLike.at.Goals as goal

pub returns : goal.returns
returns c = standing _ _ _ c.deref.ensures.value (ap (λ s. s.nodes) c.self.view_is) c.self.invariant _ _ c.standing_at.ensures
