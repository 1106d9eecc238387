use Rattle.std.proofs.Common.{◌≡◌, take}
use Rattle.std.specs.String.{string_bytes}
use Rattle.nuc_script.specs.Text.{script_text}
use Rattle.nuc_script.proofs.print.print_script.Given as goal

abbrev pub invariant-loop-command : goal.invariant-loop-command
invariant-loop-command l = string_bytes l.text ≡ script_text (take l.command-index l.list)
