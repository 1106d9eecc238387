use Rattle.std.proofs.Common.{◌≡◌, ◌++◌, take}
use Rattle.std.specs.String.{string_bytes}
use Rattle.std.specs.List.{flat_map}
use Rattle.nuc_report.specs.Report.{adoption_line}
use Rattle.nuc_report.proofs.edits.push_adoptions.Given as goal

abbrev pub invariant-loop-i : goal.invariant-loop-i
invariant-loop-i l = string_bytes l.text ≡ string_bytes l.initial.text ++ flat_map adoption_line (take l.i l.edits.now.adoptions)
