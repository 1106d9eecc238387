use Rattle.std.proofs.Common.{◌≡◌, ◌++◌, ◌∷◌, [], arith, subst, sym, IsOk}
use Rattle.std.proofs.lemmas.Grind.{common_steps}
use Rattle.nuc_io.specs.Reading.{Took}
use Rattle.nuc_io.specs.Line.{IsOneLine}
use Rattle.nuc_io.proofs.Taking.{took_more, one_line_more}
use Rattle.nuc_io.proofs.line.fill.Goals as goal

pub returns-in-Some-eq10-clause-fills : goal.returns-in-Some-eq10-clause-fills
returns-in-Some-eq10-clause-fills g c =
    let (took, one_line, counted, room, ends, later) = c.loop.invariant in
    let last = subst (λ b. Took (g.S.Source.left c.loop.src) (b ∷ []) (g.S.Source.left c.next_byte.new.src)) c.in-Some-eq10.field-0-test c.in-Some-eq10.ensures.byte in
    (one_line, omega (arith, counted), took_more _ _ _ _ _ took last)

pub loop-preserved : goal.loop-preserved
loop-preserved g c =
    let (took, one_line, counted, room, ends, later) = c.loop.invariant in
    let fits : IsOk c.push.result = grind (arith, common_steps) in
    let pushed : c.push.new.self.items ≡ c.loop.bytes.items ++ c.in-Some.byte ∷ [] = grind (arith, common_steps) in
    let left = g.S.Source.left in (
      subst (λ l. Took (left c.args.src.now) l (left c.next_byte.new.src)) (sym pushed) (took_more _ _ _ _ _ took c.in-Some.ensures.byte),
      subst IsOneLine (sym pushed) (one_line_more _ _ one_line c.in-Some.byte-test.1),
      grind (arith, common_steps),
      omega (arith, room, c.push.ensures.capacity),
      λ ended. c.in-Some.ensures.stays_ended (ends ended),
      omega (arith, later, c.in-Some.ensures.cause.later),
    )
