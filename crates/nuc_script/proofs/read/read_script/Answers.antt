use Rattle.std.proofs.Common.{◌≡◌, ◌+◌, [], ◌∷◌, ◌++◌, ap, subst, sym, ◌∙◌, arith}
use Rattle.std.proofs.lemmas.Grind.{common_steps}
use Rattle.nuc_script.specs.declared.script_read.ScriptRead.TheVariants as read
use Rattle.nuc_script.specs.Lines.{numbered_meaning}
use Rattle.nuc_script.specs.Reading.{added, without_cr}
use Rattle.nuc_script.specs.Taking.{ReadsScript}
use Rattle.nuc_script.specs.Steps.{IsFaulty}
use Rattle.nuc_script.proofs.Taking.{IsSoFar, after_line, at_last, at_end, at_fault, few_lines, faulty_short, text_short, took_no_line}
use Rattle.nuc_script.proofs.read.read_script.Goals as goal

pub returns-then-is_err-clause-lines : goal.returns-then-is_err-clause-lines
returns-then-is_err-clause-lines g c =
    let (lines, so_far, unspent, later) = c.loop-count.invariant in
    let (text, one_line, short, took, meaning) = c.in-Line.ensures.next in
    few_lines _ lines _ _ _ _ so_far (_, text_short text short, took)

pub returns-then-is_err-2-clause-lines : goal.returns-then-is_err-2-clause-lines
returns-then-is_err-2-clause-lines g c =
    let (lines, so_far, unspent, later) = c.loop-count.invariant in
    let (text, one_line, some, short, took, ends, meaning) = c.in-Last.ensures.next in
    few_lines _ lines _ _ _ _ so_far (text, omega (arith, short), took)

pub returns-in-Last-clause-script : goal.returns-in-Last-clause-script
returns-in-Last-clause-script g c =
    let (lines, so_far, unspent, later) = c.loop-count.invariant in
    let (text, one_line, some, short, took, ends, meaning) = c.in-Last.ensures.next in
    let here = ap (λ cs. numbered_meaning (c.loop-count.count + 1) cs text) (sym c.deref.ensures.value) ∙ meaning in
    let grown : c.add-in-Last.new.commands.items ≡ added c.loop-count.commands.items c.in-Last.found = grind (arith, common_steps) in
    subst (λ cs. ReadsScript (g.S.Source.left c.args.src.now) (read.Commands cs) (g.S.Source.left c.next_line.new.src)) (sym (c.from_vec.ensures ∙ grown))
    (at_last _ lines _ _ _ text _ _ so_far one_line some took ends here)

pub returns-in-Last-clause-lines : goal.returns-in-Last-clause-lines
returns-in-Last-clause-lines g c =
    let (lines, so_far, unspent, later) = c.loop-count.invariant in
    let (text, one_line, some, short, took, ends, meaning) = c.in-Last.ensures.next in
    few_lines _ lines _ _ _ _ so_far (text, omega (arith, short), took)

pub returns-in-End-clause-script : goal.returns-in-End-clause-script
returns-in-End-clause-script g c =
    let (lines, so_far, unspent, later) = c.loop-count.invariant in
    let (ends, same) = c.in-End.ensures.next in
    subst (λ cs. ReadsScript (g.S.Source.left c.args.src.now) (read.Commands cs) (g.S.Source.left c.next_line.new.src)) (sym c.from_vec-in-End.ensures)
    (at_end _ lines _ _ _ _ so_far ends same)

pub returns-in-End-clause-lines : goal.returns-in-End-clause-lines
returns-in-End-clause-lines g c =
    let (lines, so_far, unspent, later) = c.loop-count.invariant in
    few_lines _ lines _ _ _ _ so_far (took_no_line _ _ c.in-End.ensures.next.1)

pub returns-in-Fault-clause-script : goal.returns-in-Fault-clause-script
returns-in-Fault-clause-script g c =
    let (lines, so_far, unspent, later) = c.loop-count.invariant in
    let (line, faulty, took) = c.in-Fault.ensures.next in
    let here = subst (λ cs. IsFaulty (c.loop-count.count + 1) cs c.in-Fault.kind line (g.S.Source.left c.next_line.new.src)) c.deref.ensures.value faulty in
    at_fault _ lines _ _ _ _ line _ so_far here took

pub returns-in-Fault-clause-lines : goal.returns-in-Fault-clause-lines
returns-in-Fault-clause-lines g c =
    let (lines, so_far, unspent, later) = c.loop-count.invariant in
    let (line, faulty, took) = c.in-Fault.ensures.next in
    few_lines _ lines _ _ _ _ so_far (line, faulty_short _ _ _ line _ faulty, took)

pub returns-in-ReadFault-clause-lines : goal.returns-in-ReadFault-clause-lines
returns-in-ReadFault-clause-lines g c =
    let (lines, so_far, unspent, later) = c.loop-count.invariant in
    few_lines _ lines _ _ _ _ so_far c.in-ReadFault.ensures.next

pub returns-in-Memory-clause-lines : goal.returns-in-Memory-clause-lines
returns-in-Memory-clause-lines g c =
    let (lines, so_far, unspent, later) = c.loop-count.invariant in
    few_lines _ lines _ _ _ _ so_far c.in-Memory.ensures.next

pub loop-count-preserved : goal.loop-count-preserved
loop-count-preserved g c =
    let (lines, so_far, unspent, later) = c.loop-count.invariant in
    let (text, one_line, short, took, meaning) = c.in-Line.ensures.next in
    let left = g.S.Source.left in
    let here = ap (λ cs. numbered_meaning (c.loop-count.count + 1) cs (without_cr text)) (sym c.deref.ensures.value) ∙ meaning in
    let grown : c.add.new.commands.items ≡ added c.loop-count.commands.items c.in-Line.found = grind (arith, common_steps) in
    let more = after_line _ lines _ _ _ text _ _ so_far one_line short took here in
    let all = lines ++ (text ++ 10 ∷ []) ∷ [] in (
      all,
      subst (λ cs. IsSoFar (left c.args.src.now) all (c.loop-count.count + 1) cs (left c.next_line.new.src)) (sym grown) more,
      c.in-Line.ensures.goes_on tt,
      omega (arith, later, c.in-Line.ensures.cause.later),
    )

pub unreachable-requires : goal.unreachable-requires
unreachable-requires g c =
    let (lines, so_far, unspent, later) = c.loop-count.invariant in
    omega (arith, so_far.early, c.loop-count-test.false)
