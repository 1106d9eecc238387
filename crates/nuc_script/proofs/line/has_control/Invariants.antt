use Rattle.std.proofs.Common.{◌≡◌, drop}
use Rattle.std.specs.List.{list_any}
use Rattle.nuc_script.specs.Lines.{is_control}
use Rattle.nuc_script.proofs.line.has_control.Given as goal

abbrev pub invariant-loop-byte : goal.invariant-loop-byte
invariant-loop-byte l = list_any is_control (drop l.byte-index l.line) ≡ list_any is_control l.line
