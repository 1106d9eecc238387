use Rattle.std.proofs.Common.{length}
use Rattle.nuc_paths.proofs.path.+follow_on.Given as goal

abbrev pub decreases-follow_on : goal.decreases-follow_on
decreases-follow_on g l = length l.rest.now
