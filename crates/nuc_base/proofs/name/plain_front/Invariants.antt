use Rattle.std.proofs.Common.{◌≡◌, ◌++◌, take, drop}
use Rattle.std.specs.List.{take_while}
use Rattle.nuc_base.specs.Names.{is_plain}
use Rattle.nuc_base.proofs.name.plain_front.Given as goal

abbrev pub invariant-loop-i : goal.invariant-loop-i
invariant-loop-i l = take l.i l.bytes ++ take_while is_plain (drop l.i l.bytes) ≡ take_while is_plain l.bytes
