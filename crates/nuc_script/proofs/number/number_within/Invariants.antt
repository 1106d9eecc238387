use Rattle.std.proofs.Common.{◌≡◌, ◌≤◌, drop}
use Rattle.nuc_script.specs.Numbers.{number_behind}
use Rattle.nuc_script.proofs.number.number_within.Given as goal

abbrev pub invariant-loop-byte : goal.invariant-loop-byte
invariant-loop-byte l = (number_behind l.number (drop l.byte-index l.word) ≡ number_behind 0 l.word) × (l.number ≤ l.most)
