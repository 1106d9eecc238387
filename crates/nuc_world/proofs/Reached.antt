-- What a log leads to is a world.
use Rattle.std.proofs.Common.{List}
use Rattle.nuc_log.specs.declared.log.LogEntry.{LogEntry}
use Rattle.nuc_world.specs.Form.{IsWorld}
use Rattle.nuc_world.specs.Runs.{Reaches}
use Rattle.nuc_world.specs.Runs.Reaches.{opened, stepped, told, unlisted}
use Rattle.nuc_world.specs.State.{WorldState, after_one, with_failure}
use Rattle.nuc_world.proofs.Kept.{steps_keep_worlds}
use Rattle.nuc_world.proofs.Opened.{opens, recounted}

pub reached_world : (log : List LogEntry) (w : WorldState) → Reaches log w → IsWorld w
reached_world _ _ (opened clients some few) = opens clients
reached_world _ v (stepped log w e r _ before step) = steps_keep_worlds log w v e r (reached_world log w before) step
reached_world log v (told _ w c k _ before some is) = recounted c (with_failure k) w v (reached_world log w before) is
reached_world log v (unlisted _ w c _ before is) = recounted c after_one w v (reached_world log w before) is.counted
