use Rattle.std.proofs.Common.{take}
use Rattle.nuc_script.proofs.Cuts.{Lacks}
use Rattle.nuc_script.proofs.cut.cut.Given as goal

abbrev pub invariant-loop-i : goal.invariant-loop-i
invariant-loop-i l = Lacks l.at (take l.i l.text)
