use Rattle.std.proofs.Common.{◌≤◌, length, take, sym, ap, ◌∙◌, inl, inr, arith}
use Rattle.nuc_journal.proofs.Lists.{take_all}
use Rattle.nuc_journal.proofs.journal.Journal.page.Goals as goal

pub returns-in-None : goal.returns-in-None
returns-in-None c =
    let short : length c.since-rest.result.now ≤ 64 = elim c.in-None.ensures.lookup.0 [ inl h ↦ absurd (omega arith) | inr h ↦ omega arith ] in
    sym (take_all 64 _ short) ∙ ap (take 64) c.since-rest.ensures
