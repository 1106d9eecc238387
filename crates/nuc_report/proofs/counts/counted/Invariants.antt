use Rattle.std.proofs.Common.{◌≡◌, sum_by, take}
use Rattle.nuc_report.specs.Output.{batched, copies, mends, records}
use Rattle.nuc_report.proofs.counts.counted.Given as goal

abbrev pub invariant-loop-entry : goal.invariant-loop-entry
invariant-loop-entry l = record {
  batched : l.batched ≡ sum_by batched (take l.entry-index l.log);
  records : l.records ≡ sum_by records (take l.entry-index l.log);
  mends : l.mends ≡ sum_by mends (take l.entry-index l.log);
  copies : l.copies ≡ sum_by copies (take l.entry-index l.log);
}
