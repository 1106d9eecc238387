use Rattle.std.proofs.Common.{◌≤◌, length, ap, sym, ◌∙◌, arith}
use Rattle.nuc_journal.proofs.Lists.{take_all}
use Rattle.nuc_journal.proofs.journal.Journal.back.Goals as goal

pub returns-clause-settled : goal.returns-clause-settled
returns-clause-settled c = c.loop.invariant.2 ∙ ap (λ s. s.settled) c.self.view_is

pub returns-clause-now : goal.returns-clause-now
returns-clause-now c =
    let es = c.loop.self-inside.entries.items in
    let n = c.loop.self-inside.settled in
    let few : length es ≤ n = omega (arith, c.loop.invariant.1, c.loop-test.false) in
    sym (take_all n es few) ∙ c.loop.invariant.2 ∙ ap (λ s. s.settled) c.self.view_is
