use Rattle.std.proofs.Common.{◌≡◌, ◌++◌, length}
use Rattle.nuc_script.specs.Escapes.{unescaped}
use Rattle.nuc_script.proofs.escape.unescape.Given as goal

abbrev pub invariant-loop-byte : goal.invariant-loop-byte
invariant-loop-byte l = l.plain.items ++ unescaped l.rest ≡ unescaped l.bytes

abbrev pub decreases-loop-byte : goal.decreases-loop-byte
decreases-loop-byte l = length l.rest
