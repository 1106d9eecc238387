use Rattle.std.proofs.Common.{◌+◌}
use Rattle.nucleus_bench.specs.Recording.{AllPut}
use Rattle.nucleus_bench.proofs.editing.adopt_all.Given as goal

abbrev pub invariant-loop-file : goal.invariant-loop-file
invariant-loop-file l = AllPut (l.count + 1) l.edits.now.edits
