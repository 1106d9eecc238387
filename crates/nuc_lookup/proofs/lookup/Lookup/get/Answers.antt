use Rattle.std.proofs.Common.{ap, sym, ◌∙◌, Some}
use Rattle.nuc_lookup.proofs.Views.{present, absent}
use Rattle.nuc_lookup.proofs.lookup.Lookup.get.Goals as goal

pub returns-in-Ok : goal.returns-in-Ok
returns-in-Ok c = ap (λ r. Some r.to) c.index.ensures
    ∙ sym (present _ _ _ c.deref.ensures.value (ap (λ s. s.numbers) c.self.view_is) c.self.invariant _ _ c.index.result.now c.in-Ok.ensures.place)

pub returns-in-Err : goal.returns-in-Err
returns-in-Err c = sym (absent _ _ _ c.deref.ensures.value (ap (λ s. s.numbers) c.self.view_is) c.self.invariant _ _ c.in-Err.ensures.place)
