use Rattle.std.proofs.Common.{◌≡◌, ◌+◌}
use Rattle.nucleus_bench.specs.Recording.{IsFull}
use Rattle.nucleus_bench.proofs.editing.enter_all.Given as goal

abbrev pub invariant-loop : goal.invariant-loop
invariant-loop l = record {
  full : IsFull l.ids.next_ver l.edits.now.edits;
  next : l.ids.next_ver ≡ l.counter + 1;
}
