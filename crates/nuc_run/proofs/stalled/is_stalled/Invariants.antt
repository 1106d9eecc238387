use Rattle.std.proofs.Common.{◌≢◌, ◌<◌, ◌≤◌, ℕ, Some}
use Rattle.nuc_log.specs.declared.reply.MarkReply.TheVariants as mark
use Rattle.nuc_run.specs.Stalled.{last_mark}
use Rattle.nuc_run.proofs.stalled.is_stalled.Given as goal

abbrev pub invariant-loop-client : goal.invariant-loop-client
invariant-loop-client l = (k : ℕ) → 1 ≤ k → k < l.client → (n : ℕ) → last_mark k l.log ≢ Some (mark.Stalled n)
