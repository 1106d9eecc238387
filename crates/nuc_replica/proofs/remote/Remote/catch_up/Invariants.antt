use Rattle.std.proofs.Common.{◌≡◌, ◌≤◌, ◌+◌, ◌-◌, length}
use Rattle.nuc_replica.specs.Remote.{caught_up}
use Rattle.nuc_replica.proofs.remote.Remote.catch_up.Given as goal

abbrev pub invariant-loop-self : goal.invariant-loop-self
invariant-loop-self g l = record {
  within : l.fn.rev ≤ l.self.now.cursor + length l.self.now.ahead;
  same : caught_up l.fn.rev l.self.now ≡ caught_up l.fn.rev l.initial.self.now;
  settled : l.self.settled ≡ l.initial.self.settled;
}

abbrev pub decreases-loop-self : goal.decreases-loop-self
decreases-loop-self g l = l.fn.rev - l.self.now.cursor
