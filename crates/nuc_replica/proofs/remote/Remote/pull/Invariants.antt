use Rattle.std.proofs.Common.{◌≡◌, drop, take}
use Rattle.nuc_replica.specs.Remote.{Follows, with_entries}
use Rattle.nuc_replica.proofs.remote.Remote.pull.Given as goal

abbrev pub invariant-loop-entry : goal.invariant-loop-entry
invariant-loop-entry g l = record {
  follows : Follows l.self.now (drop l.entry-index l.page);
  same : with_entries l.self.now (drop l.entry-index l.page) ≡ with_entries l.initial.self.now l.page;
  moved : l.self.now ≡ with_entries l.initial.self.now (take l.entry-index l.page);
  settled : l.self.settled ≡ l.initial.self.settled;
}
