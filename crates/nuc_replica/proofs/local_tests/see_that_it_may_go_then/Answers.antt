use Rattle.std.proofs.Common.{rules}
use Rattle.nuc_replica.proofs.Trials.{may_go_then}
use Rattle.nuc_replica.proofs.local_tests.see_that_it_may_go_then.Goals as goal

pub returns-clause-cut : goal.returns-clause-cut
returns-clause-cut g c = may_go_then _ c.args.id.0 c.args.to.0 c.args.parent _ (search rules) (search rules) c.requires c.see_that_it_may_go.ensures
