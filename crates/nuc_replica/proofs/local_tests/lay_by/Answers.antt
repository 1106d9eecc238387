use Rattle.std.proofs.Common.{ap}
use Rattle.nuc_replica.specs.Local.{LocalState}
use Rattle.nuc_replica.proofs.Trials.{laid_legal, laid_parent}
use Rattle.nuc_replica.proofs.local_tests.lay_by.Goals as goal

pub returns-clause-legal : goal.returns-clause-legal
returns-clause-legal g c =
    laid_legal _ _ c.reserve.new.self.laid _ 1 _ _ c.in-Ok-lay_by.ensures.laid (ap (λ (l : LocalState). l.tree) c.lay_by.ensures.keeps.now) c.see_that_it_is_legal.ensures.legal

pub returns-clause-parent : goal.returns-clause-parent
returns-clause-parent g c =
    laid_parent c.reserve.new.self.laid _ 1 _ _ c.in-Ok-lay_by.ensures.laid c.node-node.ensures.parent
