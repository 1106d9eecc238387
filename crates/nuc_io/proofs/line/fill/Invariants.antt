use Rattle.std.proofs.Common.{◌≡◌, ◌≤◌, vec_capacity, length}
use Rattle.nuc_io.specs.Line.{IsOneLine}
use Rattle.nuc_io.specs.Reading.{Took}
use Rattle.nuc_io.proofs.line.fill.Given as goal

abbrev pub invariant-loop : goal.invariant-loop
invariant-loop g l =
    Took (g.S.Source.left l.fn.src) l.bytes.items (g.S.Source.left l.src)
    × IsOneLine l.bytes.items
    × (length l.bytes.items ≡ l.counter)
    × (4098 ≤ vec_capacity l.bytes)
    × (g.S.Source.ended l.fn.src → g.S.Source.ended l.src)
    × (g.S.Source.faults l.fn.src ≤ g.S.Source.faults l.src)
