use Rattle.std.proofs.Common.{◌≡◌, ◌≤◌, drop, length, None}
use Rattle.nuc_run.specs.Stalled.{last_mark}
use Rattle.nuc_run.proofs.stalled.last_mark.Given as goal

abbrev pub invariant-loop-left : goal.invariant-loop-left
invariant-loop-left l = record { within : l.left ≤ length l.entries; none : last_mark l.client (drop l.left l.entries) ≡ None }

abbrev pub decreases-loop-left : goal.decreases-loop-left
decreases-loop-left l = l.left
